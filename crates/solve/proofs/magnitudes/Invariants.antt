-- Each iteration adds a magnitude.
use mathlib.Core.Path.{◌≡◌}
use Rattle.loops.specs.Loop.{ranged}
use Rattle.solve.specs.Solve.{add_magnitude, magnitudes_of}
use Rattle.solve.proofs.magnitudes.Given as goal

abbrev pub invariant-loop-entry : goal.invariant-loop-entry
invariant-loop-entry g l = ranged (add_magnitude l.row) l.entry-index g.row.N l.sum ≡ magnitudes_of g.row.N l.row l.fn.sum
