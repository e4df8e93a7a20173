-- Each iteration adds an entry.
use mathlib.Core.Path.{refl}
use Rattle.loops.proofs.Loop.{ranged_again, ranged_done}
use Rattle.remainder.specs.Kernel.{up_of}
use Rattle.remainder.proofs.sums.up.Goals as goal

pub loop-i-init : goal.loop-i-init
unfolding up_of
loop-i-init c = refl

pub loop-i-preserved : goal.loop-i-preserved
loop-i-preserved c = ranged_again _ _ _ c.loop-i-test.true refl c.loop-i.invariant

pub returns : goal.returns
returns c = ranged_done _ _ _ c.loop-i-test.false c.loop-i.invariant
