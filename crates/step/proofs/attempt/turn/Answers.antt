use Rattle.step.specs.Attempt.{turn_of}
use Rattle.step.proofs.attempt.turn.Goals as goal

pub returns : goal.returns
unfolding turn_of
returns c = rw (c.atan2.ensures, c.dot.ensures, c.magnitude.ensures, c.cross.ensures)
