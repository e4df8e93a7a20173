use Rattle.step.specs.Closing.{first_stride}
use Rattle.step.proofs.closing.first_stride.Goals as goal

pub returns : goal.returns
unfolding first_stride
returns c = rw (c.min.ensures, c.sqrt.ensures.answer, c.chord_deviation.ensures)
