use mathlib.Core.Path.{◌≡◌}
use Prim.Native.Nat.{ℕ, ◌^◌}
use native.Mathlib.Omega.{arith}
use lib.Dec.{T, le→leb}
use lib.IntN.{pos}
use lib.Ieee.{Float, binary64, in_float, to_unsigned}
use Rattle.remainder.proofs.Truncation.{cut_most}
use Rattle.remainder.proofs.machine.floor.Goals as goal

-- a whole number of 53 bits is a binary64 exactly
exact : (x : Float) (n : ℕ) → n ≡ to_unsigned 53 x → T (in_float binary64 (pos n))
unfolding in_float
exact x n e = le→leb n (2 ^ 53) (omega (arith, cut_most 53 x, e))

pub int_to_float-result : goal.int_to_float-result
int_to_float-result c = exact _ _ c.truncated.ensures
