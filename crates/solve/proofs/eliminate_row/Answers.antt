-- Each iteration takes a multiple of the pivot's entry off.
use mathlib.Core.Path.{refl}
use Rattle.loops.proofs.Loop.{ranged_again, ranged_done}
use Rattle.solve.proofs.eliminate_row.Goals as goal

pub loop-k-preserved : goal.loop-k-preserved
loop-k-preserved g c = ranged_again _ _ _ c.loop-k-test.true refl c.loop-k.invariant

pub returns : goal.returns
returns g c = ranged_done _ _ _ c.loop-k-test.false c.loop-k.invariant
