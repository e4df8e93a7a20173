use Rattle.meeting.specs.Correction.{columns_of}
use Rattle.meeting.proofs.correction.columns.Goals as goal

pub returns : goal.returns
unfolding columns_of
returns c = rw (c.neg-2.ensures, c.neg.ensures, c.eval_d1-db.ensures, c.eval_d1-da.ensures)
