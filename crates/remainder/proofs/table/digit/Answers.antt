use mathlib.Core.Path.{refl}
use Rattle.remainder.proofs.table.digit.Goals as goal

pub returns : goal.returns
returns c = refl
