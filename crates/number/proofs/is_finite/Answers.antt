-- std's word for a finite number says what the logic's says.
use mathlib.Core.Path.{◌≡◌, refl, ◌∙◌}
use lib.Ieee.{Float, nan, inf, fin}
use lib.Ieee.Scale.{finite}
use Rattle.std.specs.Float.{float_is_finite}
use Rattle.number.proofs.is_finite.Goals as goal

one_word : (x : Float) → float_is_finite x ≡ finite x
unfolding float_is_finite
one_word nan = refl
one_word (inf s) = refl
one_word (fin s m e) = refl

pub returns : goal.returns
returns c = c.is_finite.ensures.value ∙ one_word c.args.x
