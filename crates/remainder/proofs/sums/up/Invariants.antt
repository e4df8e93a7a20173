-- Each iteration adds an entry.
use mathlib.Core.Path.{◌≡◌}
use Prim.Native.Nat.{◌+◌}
use Rattle.loops.specs.Loop.{ranged}
use Rattle.remainder.specs.Kernel.{add_up, up_of}
use Rattle.remainder.proofs.sums.up.Given as goal

abbrev pub invariant-loop-i : goal.invariant-loop-i
invariant-loop-i l = ranged (add_up l.fq) l.i (l.jz + 1) l.rest ≡ up_of l.fq l.jz l.fw
