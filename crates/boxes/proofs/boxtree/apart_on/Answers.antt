use Rattle.boxes.proofs.boxtree.apart_on.Goals as goal

pub returns-then-to-low : goal.returns-then-to-low
returns-then-to-low c = rw c.if-to-low.true

pub returns-else-to-low : goal.returns-else-to-low
returns-else-to-low c = rw c.if-to-low.false
