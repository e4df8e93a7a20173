use mathlib.Core.Path.{ap}
use lib.Ieee.{Float}
use Rattle.loops.proofs.Choice.{and_taken}
use Rattle.number.specs.Operators.{◌≤?◌}
use Rattle.meeting.specs.Newton.{near_of}
use Rattle.meeting.proofs.newton.near.Goals as goal

pub returns-then-abs-bound : goal.returns-then-abs-bound
unfolding near_of
returns-then-abs-bound c =
    and_taken c.magnitude_at_most.ensures c.if-magnitude_at_most.true
    (and_taken (ap (λ (x : Float). x ≤? c.args.bound) c.abs.ensures) c.if-abs-bound.true c.inside.ensures)

pub returns-else-abs-bound : goal.returns-else-abs-bound
unfolding near_of
returns-else-abs-bound c = rw (← c.magnitude_at_most.ensures, c.if-magnitude_at_most.true, ← c.abs.ensures, c.if-abs-bound.false)

pub returns-else-magnitude_at_most : goal.returns-else-magnitude_at_most
unfolding near_of
returns-else-magnitude_at_most c = rw (← c.magnitude_at_most.ensures, c.if-magnitude_at_most.false)
