-- Each iteration eliminates a row, and its right side follows.
use mathlib.Core.Path.{◌≡◌}
use Rattle.loops.specs.Loop.{ranged}
use Rattle.solve.specs.Solve.{system, eliminate_row, eliminated_of}
use Rattle.solve.proofs.eliminate.Given as goal

abbrev pub invariant-loop-row : goal.invariant-loop-row
invariant-loop-row g l = ranged (eliminate_row g.row.N l.col) l.row g.row.N (system l.m l.b) ≡ eliminated_of g.row.N l.col (system l.initial.m l.initial.b)
