use borrow.Author.Tests.{lt-ltb, le-ltb}
use Rattle.fdlibm.specs.Kernel.{kernel_cos}
use Rattle.fdlibm.proofs.kernel.kernel_cos.Goals as goal

pub returns-then-ix-lt1070805811 : goal.returns-then-ix-lt1070805811
unfolding kernel_cos
returns-then-ix-lt1070805811 c = rw (← c.requires.0, le-ltb _ _ c.requires.1, lt-ltb c.args.ix 1070805811 c.if-ix-lt1070805811.true)

pub returns : goal.returns
unfolding kernel_cos
returns c = rw (c.quarter-qx.ensures, ← c.requires.0, le-ltb _ _ c.requires.1, le-ltb c.args.ix 1070805811 c.if-ix-lt1070805811.false)
