-- Each iteration sets a term.
use mathlib.Core.Path.{refl}
use Rattle.loops.proofs.Loop.{ranged_again, ranged_done}
use Rattle.remainder.proofs.digits.first_terms.Goals as goal

pub loop-i-preserved : goal.loop-i-preserved
loop-i-preserved c = ranged_again _ _ _ c.loop-i-test.true (rw c.term.ensures refl) c.loop-i.invariant

pub returns : goal.returns
returns c = ranged_done _ _ _ c.loop-i-test.false c.loop-i.invariant
