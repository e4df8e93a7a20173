use Rattle.probe.specs.Call.{surface_from}
use Rattle.probe.proofs.call.kind.Goals as goal

pub returns-then-number : goal.returns-then-number
unfolding surface_from
returns-then-number c f a b = rw c.if-number.true

pub returns-then-number-2 : goal.returns-then-number-2
unfolding surface_from
returns-then-number-2 c f a b = rw (c.if-number-2.true, c.if-number.false)

pub returns-then-number-3 : goal.returns-then-number-3
unfolding surface_from
returns-then-number-3 c f a b = rw (c.if-number-3.true, c.if-number-2.false, c.if-number.false)

pub returns-then-number-4 : goal.returns-then-number-4
unfolding surface_from
returns-then-number-4 c f a b = rw (c.if-number-4.true, c.if-number-3.false, c.if-number-2.false, c.if-number.false)

pub returns : goal.returns
unfolding surface_from
returns c f a b = rw (c.if-number-4.false, c.if-number-3.false, c.if-number-2.false, c.if-number.false)
