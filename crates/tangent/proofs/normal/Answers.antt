use Rattle.tangent.specs.Tangent.{normal_of}
use Rattle.tangent.proofs.normal.Goals as goal

pub returns : goal.returns
unfolding normal_of
returns c = rw (c.cross.ensures, c.eval_d1-d.ensures)
