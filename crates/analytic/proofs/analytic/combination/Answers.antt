use Rattle.analytic.specs.Surface.{combination_of}
use Rattle.analytic.proofs.analytic.combination.Goals as goal

pub returns : goal.returns
unfolding combination_of
returns c = rw (c.add.ensures, c.mul-2.ensures, c.mul.ensures)
