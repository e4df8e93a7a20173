use Rattle.boxes.specs.Crossing.{sides_fit}
use Rattle.boxes.proofs.crossing.sides_fit.Goals as goal

pub returns-then-not-b-2 : goal.returns-then-not-b-2
unfolding sides_fit
returns-then-not-b-2 c = rw (c.if-not-b.true-raw, c.if-not-b-2.true-raw)

pub returns-else-not-b-2 : goal.returns-else-not-b-2
unfolding sides_fit
returns-else-not-b-2 c = rw (c.if-not-b.true-raw, c.if-not-b-2.false-raw)

pub returns-else-not-b : goal.returns-else-not-b
unfolding sides_fit
returns-else-not-b c = rw c.if-not-b.false-raw
