use Rattle.tangent.specs.Tangent.{tangent_of}
use Rattle.tangent.proofs.tangent.Goals as goal

pub returns : goal.returns
unfolding tangent_of
returns c = rw (c.unit_cross.ensures, c.normal-nb.ensures, c.normal-na.ensures)
