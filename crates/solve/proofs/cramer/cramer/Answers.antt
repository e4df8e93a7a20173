use mathlib.Core.Path.{refl}
use Rattle.solve.proofs.cramer.cramer.Goals as goal

pub returns : goal.returns
returns c = refl
