use mathlib.Core.Path.{refl}
use Rattle.reduction.specs.Reduction.{negated_of}
use Rattle.reduction.proofs.negated.Goals as goal

pub returns : goal.returns
unfolding negated_of
returns c = refl
