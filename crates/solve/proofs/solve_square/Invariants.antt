-- The columns from col on give what all of them give.
use mathlib.Core.Path.{◌≡◌}
use Rattle.solve.specs.Solve.{system, solving, solve_of}
use Rattle.solve.proofs.solve_square.Given as goal

abbrev pub invariant-loop-col : goal.invariant-loop-col
invariant-loop-col g l = solving g.row.N l.tol l.scale l.col (system l.m l.b) ≡ solve_of g.row.N l.fn.a l.fn.b l.tol
