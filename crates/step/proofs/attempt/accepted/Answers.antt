use mathlib.Core.Path.{refl}
use Rattle.loops.proofs.Choice.{and_taken}
use Rattle.step.specs.Attempt.{accepted_of}
use Rattle.step.proofs.attempt.accepted.Goals as goal

pub returns-then-near_curve : goal.returns-then-near_curve
unfolding accepted_of
returns-then-near_curve c =
    rw (← c.dot.ensures)
    (and_taken refl c.if-dot.true (and_taken c.kept.ensures c.if-kept.true (and_taken c.near_curve.ensures c.if-near_curve.true c.smooth.ensures)))

pub returns-else-near_curve : goal.returns-else-near_curve
unfolding accepted_of
returns-else-near_curve c = rw (← c.dot.ensures, c.if-dot.true, ← c.kept.ensures, c.if-kept.true, ← c.near_curve.ensures, c.if-near_curve.false)

pub returns-else-kept : goal.returns-else-kept
unfolding accepted_of
returns-else-kept c = rw (← c.dot.ensures, c.if-dot.true, ← c.kept.ensures, c.if-kept.false)

pub returns-else-dot : goal.returns-else-dot
unfolding accepted_of
returns-else-dot c = rw (← c.dot.ensures, c.if-dot.false)
