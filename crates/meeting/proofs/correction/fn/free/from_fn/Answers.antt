use borrow.Author.Tests.{le-ltb, lt-ltb}
use Rattle.meeting.specs.Correction.{free_at}
use Rattle.meeting.proofs.correction.fn.free.from_fn.Goals as goal

pub returns-then-i-pin : goal.returns-then-i-pin
unfolding free_at
returns-then-i-pin c = rw (lt-ltb _ _ c.if-i-pin.true)

pub returns-else-i-pin : goal.returns-else-i-pin
unfolding free_at
returns-else-i-pin c = rw (le-ltb _ _ c.if-i-pin.false)
