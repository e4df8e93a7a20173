use mathlib.Core.Path.{refl}
use Rattle.groups.proofs.row.point_from.Goals as goal

pub returns : goal.returns
returns c = refl
