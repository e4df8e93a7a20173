-- Each iteration joins a digit.
use mathlib.Core.Path.{◌≡◌}
use Prim.Native.Nat.{◌-◌}
use Rattle.loops.specs.Loop.{ranged}
use Rattle.remainder.specs.Kernel.{digit_joined, joined_of}
use Rattle.remainder.proofs.digits.joined.Given as goal

abbrev pub invariant-loop-i : goal.invariant-loop-i
invariant-loop-i l = ranged (digit_joined l.iq l.jz) (l.jz - l.i) (l.jz - 4) l.j ≡ joined_of l.iq l.jz
