-- The angle is not tiny, and there is a tail or none.
use borrow.Author.Tests.{le-ltb}
use Rattle.fdlibm.specs.Kernel.{kernel_sin}
use Rattle.fdlibm.proofs.kernel.kernel_sin.Goals as goal

pub returns-then-tail : goal.returns-then-tail
unfolding kernel_sin
returns-then-tail c = rw (le-ltb _ _ c.requires, c.if-tail.true)

pub returns-else-tail : goal.returns-else-tail
unfolding kernel_sin
returns-else-tail c = rw (le-ltb _ _ c.requires, c.if-tail.false)
