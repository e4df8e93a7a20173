-- The magnitude and the maximum are the definition's.
use Rattle.solve.proofs.cramer.gives_up.Goals as goal

pub returns : goal.returns
returns c = rw (c.abs.ensures, c.max.ensures)
