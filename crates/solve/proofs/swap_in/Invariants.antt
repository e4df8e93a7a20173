-- Nothing is exchanged before the pivot's row, and after it nothing more.
use mathlib.Core.Path.{◌≡◌}
use Prim.Native.Nat.{◌≤◌, ◌<◌}
use Rattle.std.specs.List.{swap}
use Rattle.solve.proofs.swap_in.Given as goal

abbrev pub invariant-loop-row : goal.invariant-loop-row
invariant-loop-row g l = (l.row ≤ l.pivot → l.items ≡ l.initial.items) × (l.pivot < l.row → l.items ≡ swap l.initial.items l.col l.pivot)
