-- A pattern is a NaN's where it is above infinity's, the sign bit aside.
use mathlib.Core.Path.{◌≡◌, refl, sym, ◌∙◌, subst}
use Prim.Native.Nat.{ℕ, ◌%◌, ◌^◌, ◌<◌, ◌≤◌}
use native.Mathlib.Omega.{arith}
use mathlib.Core.Bool.{Bool, true, false, not}
use lib.Dec.{T, ltb, lt→ltb}
use lib.Arith.{le→nltb}
use lib.Bits.{bit_and, and_mask}
use lib.Ieee.{binary64, of_bits, nan_bits, div}
use lib.Ieee.Bits.{nan_bits_above, nan_bits_is, is_true, is_false}
use Rattle.number.proofs.Sign.{is_nan_lem}
use Rattle.number.proofs.from_bits.Goals as goal

abbrev infinity : ℕ
infinity = 0x7ff0_0000_0000_0000

above : (b : ℕ) → infinity < bit_and b 0x7fff_ffff_ffff_ffff → nan_bits binary64 b ≡ true
above b h = nan_bits_above binary64 b ∙ is_true (ltb infinity (b % 2 ^ 63)) (lt→ltb infinity (b % 2 ^ 63) (omega (arith, and_mask b 63)))

not_above : (b : ℕ) → bit_and b 0x7fff_ffff_ffff_ffff ≤ infinity → nan_bits binary64 b ≡ false
not_above b h = nan_bits_above binary64 b ∙ is_false (ltb infinity (b % 2 ^ 63)) (le→nltb infinity (b % 2 ^ 63) (omega (arith, and_mask b 63)))

pub float_from_bits-result : goal.float_from_bits-result
float_from_bits-result c = subst (λ (b : Bool). T (not b)) (sym (not_above c.args.bits c.if-bits-gt9218868437227405312.false)) tt

pub returns-then-bits-gt9218868437227405312 : goal.returns-then-bits-gt9218868437227405312
unfolding of_bits div
returns-then-bits-gt9218868437227405312 c =
    let b = c.args.bits in
    sym (is_nan_lem (of_bits binary64 b) (sym (nan_bits_is binary64 b) ∙ above b c.if-bits-gt9218868437227405312.true))

pub returns-else-bits-gt9218868437227405312 : goal.returns-else-bits-gt9218868437227405312
returns-else-bits-gt9218868437227405312 c = refl
