use Rattle.meeting.proofs.Symmetric.{symmetric}
use Rattle.meeting.proofs.correction.normal_matrix.Goals as goal

pub returns : goal.returns
returns c = rw (symmetric, c.dot4-3.ensures, c.dot4-2.ensures, c.dot4.ensures, c.dot4-yz.ensures, c.dot4-xz.ensures, c.dot4-xy.ensures, c.rows.ensures)
