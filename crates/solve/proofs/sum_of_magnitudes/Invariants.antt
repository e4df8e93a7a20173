-- Each iteration adds a row's magnitudes.
use mathlib.Core.Path.{◌≡◌}
use Rattle.loops.specs.Loop.{ranged}
use Rattle.solve.specs.Solve.{add_row, sum_of_magnitudes}
use Rattle.solve.proofs.sum_of_magnitudes.Given as goal

abbrev pub invariant-loop-row : goal.invariant-loop-row
invariant-loop-row g l = ranged (add_row g.row.N l.m) l.row-index g.row.N l.sum ≡ sum_of_magnitudes g.row.N l.m
