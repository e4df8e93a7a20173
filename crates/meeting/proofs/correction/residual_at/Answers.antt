use Rattle.meeting.specs.Correction.{residual_of}
use Rattle.meeting.proofs.correction.residual_at.Goals as goal

pub returns : goal.returns
unfolding residual_of
returns c = rw (c.dot.ensures, c.offset-r.ensures, c.sub-f.ensures, c.eval_point-pb.ensures, c.eval_point-pa.ensures)
