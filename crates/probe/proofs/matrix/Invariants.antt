-- Each iteration reads a row.
use mathlib.Core.Path.{◌≡◌}
use mathlib.Core.List.{[]}
use Prim.Native.Nat.{ℕ, ◌*◌, ◌<◌}
use lib.ListN.{get_or, length}
use Rattle.probe.specs.Probe.{numbers_from}
use Rattle.probe.proofs.matrix.Given as goal

abbrev pub invariant-loop-k : goal.invariant-loop-k
invariant-loop-k g l = (length l.row-items ≡ g.row.N) × ((j : ℕ) → j < l.k → get_or l.row-items j [] ≡ numbers_from g.row.N (g.row.N * j) l.input)
