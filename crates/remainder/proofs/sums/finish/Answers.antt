use mathlib.Core.Path.{refl, ◌∙◌}
use mir.Syntax.{w32}
use Rattle.std.proofs.lemmas.Int.{to_z-of_z}
use Rattle.remainder.specs.Kernel.{finish_of}
use Rattle.remainder.proofs.sums.finish.Goals as goal

pub returns : goal.returns
unfolding finish_of
returns c = c.compressed.ensures ∙ rw (c.parts.ensures, c.values.ensures, ← to_z-of_z w32 _ c.ranges.q0, ← c.chopped-held.ensures.is) refl
