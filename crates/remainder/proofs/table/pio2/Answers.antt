use mathlib.Core.Path.{refl}
use Rattle.remainder.proofs.table.pio2.Goals as goal

pub returns : goal.returns
returns c = refl
