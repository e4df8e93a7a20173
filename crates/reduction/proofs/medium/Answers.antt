use Prim.Native.Nat.{ℕ, ◌^◌, ◌<◌}
use native.Mathlib.Omega.{arith}
use lib.Dec.{T, le→leb}
use lib.IntN.{pos}
use lib.Ieee.{binary64, in_float}
use Rattle.reduction.specs.Reduction.{medium_of, first_difference}
use Rattle.reduction.proofs.medium.Goals as goal

-- a number below 2 ^ 31 is a binary64 exactly
exact : (n : ℕ) → n < 2 ^ 31 → T (in_float binary64 (pos n))
unfolding in_float
exact n h = le→leb n (2 ^ 53) (omega arith)

pub int_to_float-n : goal.int_to_float-n
int_to_float-n c = exact _ c.int-whole.ensures.within

pub returns : goal.returns
unfolding medium_of first_difference
returns c = rw (c.taken.ensures, c.refined-d.ensures, c.plain_difference.ensures.0, c.plain_difference.ensures.1, c.int-whole.ensures.is)
