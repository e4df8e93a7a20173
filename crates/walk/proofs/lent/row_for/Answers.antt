-- The two sides are one struct.
use mathlib.Core.Path.{refl}
use Rattle.walk.proofs.lent.row_for.Goals as goal

pub returns : goal.returns
returns c = refl
