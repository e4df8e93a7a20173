use Rattle.step.specs.Closing.{along_of}
use Rattle.step.proofs.closing.along.Goals as goal

pub returns : goal.returns
unfolding along_of
returns c = rw (c.max.ensures, c.dot-2.ensures, c.dot.ensures, c.sub.ensures, c.sub-chord.ensures)
