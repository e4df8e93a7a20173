-- Each iteration adds a row's magnitudes.
use Rattle.loops.proofs.Loop.{ranged_again, ranged_done}
use Rattle.solve.proofs.sum_of_magnitudes.Goals as goal

pub loop-row-preserved : goal.loop-row-preserved
loop-row-preserved g c = ranged_again _ _ _ c.loop-row-test.true c.magnitudes-sum.ensures c.loop-row.invariant

pub returns : goal.returns
returns g c = ranged_done _ _ _ c.loop-row-test.false c.loop-row.invariant
