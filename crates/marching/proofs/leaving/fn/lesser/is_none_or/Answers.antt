use mathlib.Core.Path.{refl}
use Rattle.marching.proofs.leaving.fn.lesser.is_none_or.Goals as goal

pub returns : goal.returns
returns c = refl
