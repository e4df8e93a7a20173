use mathlib.Core.Path.{refl}
use Rattle.loops.proofs.Choice.{and_taken, and_left}
use Rattle.patch.specs.Patch.{cone_fits}
use Rattle.patch.proofs.patch.cone_fits.Goals as goal

pub returns-then-r : goal.returns-then-r
unfolding cone_fits
returns-then-r c = rw (← c.abs.ensures) (and_taken refl c.if-r.true refl)

pub returns-else-r : goal.returns-else-r
unfolding cone_fits
returns-else-r c = and_left _ refl c.if-r.false
