use mathlib.Core.Path.{refl}
use Rattle.arctangent.proofs.arctangent.atan_series.Goals as goal

pub returns : goal.returns
returns c = refl
