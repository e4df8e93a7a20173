-- Each iteration adds a product.
use mathlib.Core.Path.{refl}
use Rattle.loops.proofs.Loop.{ranged_again, ranged_done}
use Rattle.remainder.specs.Kernel.{term_of}
use Rattle.remainder.proofs.digits.term.Goals as goal

pub loop-j-init : goal.loop-j-init
unfolding term_of
loop-j-init c = refl

pub loop-j-preserved : goal.loop-j-preserved
loop-j-preserved c = ranged_again _ _ _ c.loop-j-test.true refl c.loop-j.invariant

pub returns : goal.returns
returns c = ranged_done _ _ _ c.loop-j-test.false c.loop-j.invariant
