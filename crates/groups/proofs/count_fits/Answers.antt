use borrow.Author.Tests.{le-leb, lt-leb}
use Rattle.groups.specs.Groups.{least_points, count_fits}
use Rattle.groups.proofs.count_fits.Goals as goal

pub returns-then-count-ge-LEAST_POINTS : goal.returns-then-count-ge-LEAST_POINTS
unfolding count_fits
returns-then-count-ge-LEAST_POINTS c = rw (le-leb least_points _ c.if-count-ge-LEAST_POINTS.true)

pub returns-else-count-ge-LEAST_POINTS : goal.returns-else-count-ge-LEAST_POINTS
unfolding count_fits
returns-else-count-ge-LEAST_POINTS c = rw (lt-leb least_points _ c.if-count-ge-LEAST_POINTS.false)
