use mathlib.Core.Path.{refl}
use Rattle.reduction.specs.Reduction.{next_difference}
use Rattle.reduction.proofs.next_difference.Goals as goal

pub returns : goal.returns
unfolding next_difference
returns c = refl
