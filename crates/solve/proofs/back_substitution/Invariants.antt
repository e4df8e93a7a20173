-- Each iteration finds an entry, from the last up.
use mathlib.Core.Path.{◌≡◌}
use Prim.Native.Nat.{◌-◌}
use Rattle.loops.specs.Loop.{ranged}
use Rattle.solve.specs.Solve.{system, back_body, back_substitution}
use Rattle.solve.proofs.back_substitution.Given as goal

abbrev pub invariant-loop-row : goal.invariant-loop-row
invariant-loop-row g l = ranged (back_body g.row.N (system l.m l.b)) (g.row.N - l.row) g.row.N l.x ≡ back_substitution g.row.N (system l.m l.b)
