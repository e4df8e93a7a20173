use Rattle.step.specs.Attempt.{near_curve}
use Rattle.step.proofs.attempt.near_curve.Goals as goal

pub returns : goal.returns
unfolding near_curve
returns c = rw c.chord_deviation.ensures
