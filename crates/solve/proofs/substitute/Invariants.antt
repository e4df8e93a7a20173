-- Each iteration takes a product off.
use mathlib.Core.Path.{◌≡◌}
use Prim.Native.Nat.{◌+◌}
use lib.ListN.{length}
use Rattle.loops.specs.Loop.{ranged}
use Rattle.solve.specs.Solve.{less_product, substituted}
use Rattle.solve.proofs.substitute.Given as goal

abbrev pub invariant-loop-entry : goal.invariant-loop-entry
invariant-loop-entry g l = ranged (less_product l.row l.x) (l.from + length l.yielded) g.row.N l.acc ≡ substituted g.row.N l.row l.x l.from l.fn.acc
