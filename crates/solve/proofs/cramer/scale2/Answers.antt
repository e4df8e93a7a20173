-- The four magnitudes are the definition's.
use Rattle.solve.proofs.cramer.scale2.Goals as goal

pub returns : goal.returns
returns c = rw (c.abs-4.ensures, c.abs-3.ensures, c.abs-2.ensures, c.abs.ensures)
