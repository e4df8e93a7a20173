-- Each iteration sets a digit.
use mathlib.Core.Path.{◌≡◌}
use Prim.Native.Nat.{◌+◌}
use Rattle.loops.specs.Loop.{ranged}
use Rattle.remainder.specs.Kernel.{digit_set, first_digits}
use Rattle.remainder.proofs.digits.first_digits.Given as goal

abbrev pub invariant-loop-i : goal.invariant-loop-i
invariant-loop-i l = ranged (digit_set l.jv l.jx) l.i (l.jx + 4 + 1) l.f ≡ first_digits l.jv l.jx l.initial.f
