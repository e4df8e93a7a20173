use mathlib.Core.Path.{refl}
use Rattle.capi.proofs.tolerance.Goals as goal

pub returns : goal.returns
returns c = refl
