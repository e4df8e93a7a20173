use Rattle.step.specs.Step.{inner_step}
use Rattle.step.proofs.step.inner_step.Goals as goal

pub returns-then-came_round : goal.returns-then-came_round
unfolding inner_step
returns-then-came_round c = rw (← c.came_round.ensures, c.if-came_round.true, ← c.distance.ensures)

pub returns-else-came_round : goal.returns-else-came_round
unfolding inner_step
returns-else-came_round c = rw (← c.came_round.ensures, c.if-came_round.false, ← c.next_stride-length.ensures)
