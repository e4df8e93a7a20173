use borrow.Author.Tests.{le-leb, lt-leb}
use Rattle.step.specs.Step.{came_round}
use Rattle.step.proofs.step.came_round.Goals as goal

pub returns-then-held-ge3 : goal.returns-then-held-ge3
unfolding came_round
returns-then-held-ge3 c = rw (c.closes.ensures, le-leb 3 c.args.held c.if-held-ge3.true)

pub returns-else-held-ge3 : goal.returns-else-held-ge3
unfolding came_round
returns-else-held-ge3 c = rw (lt-leb 3 c.args.held c.if-held-ge3.false)
