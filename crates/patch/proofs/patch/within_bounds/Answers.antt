use Rattle.patch.specs.Patch.{within_bounds}
use Rattle.patch.proofs.patch.within_bounds.Goals as goal

pub returns : goal.returns
unfolding within_bounds
returns c = rw (c.bounded-4.ensures, c.bounded-3.ensures, c.bounded-2.ensures, c.bounded.ensures)
