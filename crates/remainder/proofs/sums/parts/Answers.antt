-- Each iteration sets an entry.
use mathlib.Core.Path.{refl}
use Rattle.loops.proofs.Loop.{ranged_again, ranged_done}
use Rattle.remainder.specs.Kernel.{parts_of}
use Rattle.remainder.proofs.sums.parts.Goals as goal

pub loop-t-init : goal.loop-t-init
unfolding parts_of
loop-t-init c = refl

pub loop-t-preserved : goal.loop-t-preserved
loop-t-preserved c = ranged_again _ _ _ c.loop-t-test.true (rw c.part.ensures refl) c.loop-t.invariant

pub returns : goal.returns
returns c = ranged_done _ _ _ c.loop-t-test.false c.loop-t.invariant
