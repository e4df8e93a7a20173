-- One test of the high word stands for that of either.
use borrow.Author.Tests.{lt-ltb}
use Rattle.fdlibm.specs.Kernel.{kernel_sin, kernel_cos}
use Rattle.fdlibm.proofs.kernel.kernels.Goals as goal

pub returns-then-ix-lt1044381696 : goal.returns-then-ix-lt1044381696
unfolding kernel_sin kernel_cos
returns-then-ix-lt1044381696 c = (rw (← c.high_word-ix.ensures, lt-ltb _ _ c.if-ix-lt1044381696.true), rw (← c.high_word-ix.ensures, lt-ltb _ _ c.if-ix-lt1044381696.true))
