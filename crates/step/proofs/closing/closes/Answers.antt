use Rattle.step.specs.Closing.{closes_of}
use Rattle.step.proofs.closing.closes.Goals as goal

pub returns-then-s-2 : goal.returns-then-s-2
unfolding closes_of
returns-then-s-2 c = rw (← c.along-s.ensures, c.if-s.true, c.if-s-2.true, ← c.sub.ensures, ← c.mul.ensures, ← c.add.ensures, ← c.distance.ensures, ← c.chord_deviation.ensures)

pub returns-else-s-2 : goal.returns-else-s-2
unfolding closes_of
returns-else-s-2 c = rw (← c.along-s.ensures, c.if-s.true, c.if-s-2.false)

pub returns-else-s : goal.returns-else-s
unfolding closes_of
returns-else-s c = rw (← c.along-s.ensures, c.if-s.false)
