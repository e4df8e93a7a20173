-- Each iteration takes a digit off z.
use mathlib.Core.Path.{refl}
use Rattle.loops.proofs.Loop.{ranged_again, ranged_done}
use Rattle.remainder.specs.Kernel.{distill_of}
use Rattle.remainder.proofs.digits.distill.Goals as goal

pub loop-i-init : goal.loop-i-init
unfolding distill_of
loop-i-init c = refl

pub loop-i-preserved : goal.loop-i-preserved
loop-i-preserved c = ranged_again _ _ _ c.loop-i-test.true (rw (c.int.ensures.is, c.int-fw.ensures.is) refl) c.loop-i.invariant

pub returns : goal.returns
returns c = ranged_done _ _ _ c.loop-i-test.false c.loop-i.invariant
