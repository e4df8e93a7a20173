use Rattle.step.specs.Attempt.{smooth_of}
use Rattle.step.proofs.attempt.smooth.Goals as goal

pub returns : goal.returns
unfolding smooth_of
returns c = rw c.max.ensures
