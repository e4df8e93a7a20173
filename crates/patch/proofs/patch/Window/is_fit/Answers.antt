use mathlib.Core.Path.{refl}
use Rattle.patch.specs.Patch.{window_fit}
use Rattle.patch.proofs.patch.Window.is_fit.Goals as goal

pub returns : goal.returns
unfolding window_fit
returns c = refl
