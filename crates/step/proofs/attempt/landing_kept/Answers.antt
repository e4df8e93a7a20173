use Rattle.step.specs.Attempt.{landing_kept}
use Rattle.step.proofs.attempt.landing_kept.Goals as goal

pub returns-then-dot : goal.returns-then-dot
unfolding landing_kept
returns-then-dot c = rw (← c.sub.ensures, ← c.dot.ensures, c.if-dot.true, ← c.distance.ensures, ← c.kept.ensures)

pub returns-else-dot : goal.returns-else-dot
unfolding landing_kept
returns-else-dot c = rw (← c.sub.ensures, ← c.dot.ensures, c.if-dot.false)
