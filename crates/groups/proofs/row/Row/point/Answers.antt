use mathlib.Core.Path.{refl}
use Rattle.groups.proofs.row.Row.point.Goals as goal

pub returns : goal.returns
returns c = refl
