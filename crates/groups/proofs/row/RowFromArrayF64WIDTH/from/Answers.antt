use mathlib.Core.Path.{refl}
use Rattle.groups.proofs.row.RowFromArrayF64WIDTH.from.Goals as goal

pub returns : goal.returns
returns c = refl
