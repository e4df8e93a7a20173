-- Each iteration turns a digit.
use mathlib.Core.Path.{refl}
use Rattle.loops.proofs.Loop.{ranged_again, ranged_done}
use Rattle.remainder.specs.Kernel.{complement_of}
use Rattle.remainder.proofs.digits.complement.Goals as goal

pub loop-i-init : goal.loop-i-init
unfolding complement_of
loop-i-init c = refl

pub loop-i-preserved : goal.loop-i-preserved
loop-i-preserved c = ranged_again _ _ _ c.loop-i-test.true (rw (c.opposite.ensures, c.carried-carry.ensures) refl) c.loop-i.invariant

pub returns : goal.returns
returns c = ranged_done _ _ _ c.loop-i-test.false c.loop-i.invariant
