use borrow.Author.Tests.{le-leb, lt-leb}
use Rattle.walk.specs.Trace.{least_steps, cap_fits}
use Rattle.walk.proofs.trace.cap_fits.Goals as goal

pub returns-then-cap-ge-LEAST_STEPS : goal.returns-then-cap-ge-LEAST_STEPS
unfolding cap_fits
returns-then-cap-ge-LEAST_STEPS c = rw (le-leb least_steps _ c.if-cap-ge-LEAST_STEPS.true)

pub returns-else-cap-ge-LEAST_STEPS : goal.returns-else-cap-ge-LEAST_STEPS
unfolding cap_fits
returns-else-cap-ge-LEAST_STEPS c = rw (lt-leb least_steps _ c.if-cap-ge-LEAST_STEPS.false)
