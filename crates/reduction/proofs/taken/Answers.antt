use mathlib.Core.Path.{refl}
use Rattle.reduction.specs.Reduction.{taken_of}
use Rattle.reduction.proofs.taken.Goals as goal

pub returns : goal.returns
unfolding taken_of
returns c = refl
