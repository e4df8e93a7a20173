-- Each iteration adds a product.
use mathlib.Core.Path.{◌≡◌}
use Prim.Native.Nat.{◌+◌, ◌-◌}
use Rattle.loops.specs.Loop.{ranged}
use Rattle.remainder.specs.Kernel.{part_added, part_of}
use Rattle.remainder.proofs.sums.part.Given as goal

abbrev pub invariant-loop-k : goal.invariant-loop-k
invariant-loop-k l = ranged (part_added l.q (l.jz - l.t)) l.k (l.last + 1) l.fw ≡ part_of l.q l.jz l.t
