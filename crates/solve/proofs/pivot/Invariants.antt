-- Each iteration keeps the better row, and its entry.
use mathlib.Core.Path.{◌≡◌}
use Prim.Native.Nat.{◌≤◌, ◌<◌}
use Rattle.loops.specs.Loop.{ranged}
use Rattle.solve.specs.Cramer.{cell}
use Rattle.solve.specs.Solve.{better, pivot_of}
use Rattle.solve.proofs.pivot.Given as goal

abbrev pub invariant-loop-row : goal.invariant-loop-row
invariant-loop-row g l = record {
  so_far : ranged (better l.m l.col) l.row g.row.N l.best.row ≡ pivot_of g.row.N l.m l.col;
  held : l.best.entry ≡ cell l.m l.best.row l.col;
  below : l.col ≤ l.best.row;
  within : l.best.row < g.row.N;
}
