use Rattle.boxes.specs.Bounds.{boxes_apart}
use Rattle.boxes.proofs.boxtree.boxes_apart.Goals as goal

pub returns-then-apart_on : goal.returns-then-apart_on
unfolding boxes_apart
returns-then-apart_on c = rw (← c.apart_on.ensures, c.if-apart_on.true)

pub returns-then-apart_on-2 : goal.returns-then-apart_on-2
unfolding boxes_apart
returns-then-apart_on-2 c = rw (← c.apart_on.ensures, c.if-apart_on.false, ← c.apart_on-else-apart_on.ensures, c.if-apart_on-2.true)

pub returns-else-apart_on-2 : goal.returns-else-apart_on-2
unfolding boxes_apart
returns-else-apart_on-2 c = rw (← c.apart_on.ensures, c.if-apart_on.false, ← c.apart_on-else-apart_on.ensures, c.if-apart_on-2.false) c.apart_on-else-apart_on-2.ensures
