-- Each iteration adds an entry.
use mathlib.Core.Path.{◌≡◌}
use Prim.Native.Nat.{◌+◌, ◌-◌}
use Rattle.loops.specs.Loop.{ranged}
use Rattle.remainder.specs.Kernel.{add_down, down_of}
use Rattle.remainder.proofs.sums.down.Given as goal

abbrev pub invariant-loop-i : goal.invariant-loop-i
invariant-loop-i l = ranged (add_down l.fq l.jz) (l.jz + 1 - l.i) (l.jz + 1) l.fw ≡ down_of l.fq l.jz
