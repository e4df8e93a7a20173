use Rattle.step.specs.Attempt.{onward_of}
use Rattle.step.proofs.attempt.onward.Goals as goal

pub returns-then-accepted : goal.returns-then-accepted
unfolding onward_of
returns-then-accepted c = rw (c.max.ensures, ← c.distance-chord.ensures, ← c.turn-turned.ensures, ← c.accepted.ensures, c.if-accepted.true)

pub returns-else-accepted : goal.returns-else-accepted
unfolding onward_of
returns-else-accepted c = rw (← c.distance-chord.ensures, ← c.turn-turned.ensures, ← c.accepted.ensures, c.if-accepted.false)
