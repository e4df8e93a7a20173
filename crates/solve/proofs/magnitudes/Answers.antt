-- Each iteration adds a magnitude.
use mathlib.Core.Path.{ap}
use Rattle.number.specs.Operators.{◌⊕◌}
use Rattle.loops.proofs.Loop.{ranged_again, ranged_done}
use Rattle.solve.proofs.magnitudes.Goals as goal

pub loop-entry-preserved : goal.loop-entry-preserved
loop-entry-preserved g c = ranged_again _ _ _ c.loop-entry-test.true (ap (◌⊕◌ c.loop-entry.sum) c.abs-sum.ensures) c.loop-entry.invariant

pub returns : goal.returns
returns g c = ranged_done _ _ _ c.loop-entry-test.false c.loop-entry.invariant
