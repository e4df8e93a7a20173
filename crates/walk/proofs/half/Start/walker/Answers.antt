use Rattle.walk.specs.Line.{first_walker}
use Rattle.walk.proofs.half.Start.walker.Goals as goal

pub returns : goal.returns
unfolding first_walker
returns c = rw c.mul.ensures
