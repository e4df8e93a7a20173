-- The whole part of a number by the fields of its bits is the whole part that C's cast gives.
use mathlib.Core.Path.{◌≡◌, refl, sym, ap, ◌∙◌, subst}
use mathlib.Core.Logic.{◌⊎◌, inl, inr}
use Prim.Native.Nat.{ℕ, zero, suc, ◌+◌, ◌-◌, ◌*◌, ◌/◌, ◌%◌, ◌^◌, ◌≤◌, ◌<◌, min}
use native.Mathlib.Nat.{mul-div-mul_right, div-eq_of_lt, le-div_iff_mul-le, min-eq_left, min-eq_right, min-le_right}
use native.Mathlib.Nat.{le_trans, le_of_eq, mul-le-mul_right, lt_of_lt_of_le, eq-or-lt_of_le, mod-lt}
use native.Mathlib.Omega.{arith}
use mathlib.Core.Bool.{Bool, true, false, not, cond}
use lib.Dec.{T, eqb, lit≤}
use borrow.Author.Tests.{le-leb}
use lib.Bits.{bit_and, and_mask}
use lib.Pow.{pow_pos, pow_mono, shl_lt, shr_lt}
use lib.Ieee.{Float, nan, inf, fin, binary64, up, down, odd, of_fields, to_bits, fits, is_nan, to_unsigned}
use lib.Ieee.Bits.{of_bits-to_bits}
use lib.Ieee.Fits.{down_pos}
use lib.Ieee.Exact.{HasValue, odd_sign}
use lib.Ieee.Nearest.{div_same}
use Rattle.std.proofs.Common.{zero-le}
use Rattle.number.proofs.Powers.{pow_sum}
use Rattle.number.proofs.Fields.{at, subnormal, normal, fields, plain_bits}

abbrev pub most : ℕ → ℕ
most w = 2 ^ w - 1

-- ---- from the value
pub cut : (w : ℕ) (x : Float) (a c : ℕ) → 0 < c → HasValue x false a c → to_unsigned w x ≡ min (a / c) (most w)
unfolding to_unsigned
cut w nan a c C h = absurd h
cut w (inf s) a c C h = absurd h
cut w (fin s m e) a c C h =
    ap (λ (k : Bool). cond k 0 (min (m * up e / down e) (most w))) h.0
    ∙ ap (λ (k : ℕ). min k (most w)) (div_same (m * up e) (down e) a c (down_pos e) C h.1)

cut_negative : (w : ℕ) (x : Float) (a c : ℕ) → HasValue x true a c → to_unsigned w x ≡ 0
unfolding to_unsigned
cut_negative w nan a c h = absurd h
cut_negative w (inf s) a c h = absurd h
cut_negative w (fin s m e) a c h = ap (λ (k : Bool). cond k 0 (min (m * up e / down e) (most w))) h.0

pub cut_most : (w : ℕ) (x : Float) → to_unsigned w x ≤ most w
unfolding to_unsigned
cut_most w nan = zero-le
cut_most w (inf true) = zero-le
cut_most w (inf false) = le_of_eq refl
cut_most w (fin true m e) = zero-le
cut_most w (fin false m e) = min-le_right (m * up e / down e) (most w)

-- ---- by the fields

-- none below 1
none : (w : ℕ) → min 0 (most w) ≡ 0
none w = min-eq_left (zero-le)

small : (t k : ℕ) → t < 2 ^ 52 → k < 1022 → (2 ^ 52 + t) * 2 ^ k < 2 ^ 1074
small t k h l = lt_of_lt_of_le (shl_lt 53 k (omega arith)) (pow_mono {i = 53 + k} {j = 1074} (omega arith))

below_one : (w e t : ℕ) → t < 2 ^ 52 → e < 1023 → to_unsigned w (at false e t) ≡ 0
below_one w zero t h l =
    cut w (at false 0 t) t (2 ^ 1074) (pow_pos 1074) (subnormal false t)
    ∙ ap (λ (k : ℕ). min k (most w)) (div-eq_of_lt (lt_of_lt_of_le h (pow_mono {i = 52} {j = 1074} (lit≤ tt))))
    ∙ none w
below_one w (suc k) t h l =
    cut w (at false (suc k) t) ((2 ^ 52 + t) * 2 ^ k) (2 ^ 1074) (pow_pos 1074) (normal false k t (omega arith))
    ∙ ap (λ (k : ℕ). min k (most w)) (div-eq_of_lt (small t k h (omega arith)))
    ∙ none w

-- from 1 to 2 ^ w: a shift, by j = 1074 - k
pub shift : (q k j : ℕ) → k + j ≡ 1074 → q * 2 ^ k / 2 ^ 1074 ≡ q / 2 ^ j
shift q k j e = ap (λ (n : ℕ). q * 2 ^ k / n) (sym (pow_sum j k 1074 (omega (arith, e)))) ∙ mul-div-mul_right q (2 ^ j) (pow_pos k)

shifted : (w t j : ℕ) → t < 2 ^ 52 → 53 ≤ w + j → (2 ^ 52 + t) / 2 ^ j ≤ most w
shifted w t j h l =
    let k : (2 ^ 52 + t) / 2 ^ j < 2 ^ w = shr_lt w j (lt_of_lt_of_le (two t h) (pow_mono {i = 53} {j = w + j} (omega arith))) in
    omega arith
  where
    two : (t : ℕ) → t < 2 ^ 52 → 2 ^ 52 + t < 2 ^ 53
    two t h = omega arith

middle : (w e t : ℕ) → t < 2 ^ 52 → 1023 ≤ e → e < 1023 + w → w ≤ 53 → to_unsigned w (at false e t) ≡ (t + 2 ^ 52) / 2 ^ (1075 - e)
middle w zero t h l m n = absurd (omega arith)
middle w (suc k) t h l m n =
    cut w (at false (suc k) t) ((2 ^ 52 + t) * 2 ^ k) (2 ^ 1074) (pow_pos 1074) (normal false k t (omega arith))
    ∙ ap (λ (n : ℕ). min n (most w)) (shift (2 ^ 52 + t) k (1075 - suc k) (omega arith))
    ∙ min-eq_left (shifted w t (1075 - suc k) h (omega arith))
    ∙ ap (λ (n : ℕ). n / 2 ^ (1075 - suc k)) (swap t)
  where
    swap : (t : ℕ) → 2 ^ 52 + t ≡ t + 2 ^ 52
    swap t = omega arith

-- from 2 ^ w on
large : (w t k : ℕ) → 1022 + w ≤ k → most w * 2 ^ 1074 ≤ (2 ^ 52 + t) * 2 ^ k
large w t k h =
    le_trans (mul-le-mul_right (2 ^ 1074) (less (2 ^ w)))
    (le_trans (le_of_eq (pow_sum w 1074 (w + 1074) refl))
    (le_trans (pow_mono {i = w + 1074} {j = 52 + k} (omega arith))
    (le_trans (le_of_eq (sym (pow_sum 52 k (52 + k) refl))) (mul-le-mul_right (2 ^ k) (add t)))))
  where
    less : (n : ℕ) → n - 1 ≤ n
    less n = omega arith

    add : (t : ℕ) → 2 ^ 52 ≤ 2 ^ 52 + t
    add t = omega arith

above : (w e t : ℕ) → 1023 + w ≤ e → e < 2047 → to_unsigned w (at false e t) ≡ most w
above w zero t l m = absurd (omega arith)
above w (suc k) t l m =
    cut w (at false (suc k) t) ((2 ^ 52 + t) * 2 ^ k) (2 ^ 1074) (pow_pos 1074) (normal false k t m)
    ∙ min-eq_right ((le-div_iff_mul-le (pow_pos 1074)).1 (large w t k (omega arith)))

infinite : (w t : ℕ) → T (not (is_nan (at false 2047 t))) → to_unsigned w (at false 2047 t) ≡ most w
unfolding of_fields is_nan
infinite w t h = go (eqb t 0) h
  where
    go : (b : Bool) → T (not (is_nan (cond b (inf false) nan))) → to_unsigned w (cond b (inf false) nan) ≡ most w
    go true h = unfold to_unsigned in refl
    go false h = absurd h

-- a negative number
negative : (w e t : ℕ) → to_unsigned w (at true e t) ≡ 0
unfolding of_fields
negative w zero t = cut_negative w (at true 0 t) t (2 ^ 1074) (subnormal true t)
negative w (suc k) t = go (eqb (suc k) 2047)
  where
    top : (b : Bool) → to_unsigned w (cond b (inf true) nan) ≡ 0
    top true = unfold to_unsigned in refl
    top false = unfold to_unsigned in refl

    go : (b : Bool) → to_unsigned w (cond b (cond (eqb t 0) (inf true) nan) (odd 53 true (2 ^ 52 + t) k 1074)) ≡ 0
    go true = top (eqb t 0)
    go false = cut_negative w (odd 53 true (2 ^ 52 + t) k 1074) ((2 ^ 52 + t) * 2 ^ k) (2 ^ 1074) (odd_sign 53 true (2 ^ 52 + t) k 1074)

-- ---- the four cases of the code
module _ (w : ℕ) (m : w ≤ 53) (x : Float) (f : T (fits binary64 x)) where
  plain : to_bits binary64 x / 2 ^ 52 < 2048 → x ≡ at false (to_bits binary64 x / 2 ^ 52) (to_bits binary64 x % 2 ^ 52)
  plain h = sym (of_bits-to_bits binary64 x f) ∙ plain_bits (to_bits binary64 x) h

  digits : to_bits binary64 x % 2 ^ 52 < 2 ^ 52
  digits = mod-lt (to_bits binary64 x) (pow_pos 52)

  pub no_part : to_bits binary64 x / 2 ^ 52 < 1023 → to_unsigned w x ≡ 0
  no_part h =
      let b = to_bits binary64 x in
      ap (to_unsigned w) (plain (omega arith)) ∙ below_one w (b / 2 ^ 52) (b % 2 ^ 52) digits h

  pub whole_part : 1023 ≤ to_bits binary64 x / 2 ^ 52 → to_bits binary64 x / 2 ^ 52 < 1023 + w
      → to_unsigned w x ≡ (bit_and (to_bits binary64 x) 0xfffffffffffff + 2 ^ 52) / 2 ^ (1075 - to_bits binary64 x / 2 ^ 52)
  whole_part l h =
      let b = to_bits binary64 x in
      ap (to_unsigned w) (plain (omega arith))
      ∙ middle w (b / 2 ^ 52) (b % 2 ^ 52) digits l h m
      ∙ ap (λ (t : ℕ). (t + 2 ^ 52) / 2 ^ (1075 - b / 2 ^ 52)) (sym (and_mask b 52))

  pub most_part : T (not (is_nan x)) → 1023 + w ≤ to_bits binary64 x / 2 ^ 52 → to_bits binary64 x / 2 ^ 52 < 2048 → to_unsigned w x ≡ most w
  most_part n l h =
      let e = to_bits binary64 x / 2 ^ 52 in
      ap (to_unsigned w) (plain h)
      ∙ go e (to_bits binary64 x % 2 ^ 52) l (eq-or-lt_of_le (below e h)) (subst (λ (y : Float). T (not (is_nan y))) (plain h) n)
    where
      below : (e : ℕ) → e < 2048 → e ≤ 2047
      below e h = omega arith

      go : (e t : ℕ) → 1023 + w ≤ e → (e ≡ 2047) ⊎ (e < 2047) → T (not (is_nan (at false e t))) → to_unsigned w (at false e t) ≡ most w
      go e t l (inl p) k = ap (λ (i : ℕ). to_unsigned w (at false i t)) p ∙ infinite w t (subst (λ (i : ℕ). T (not (is_nan (at false i t)))) p k)
      go e t l (inr p) k = above w e t l p

  pub negative_part : 2048 ≤ to_bits binary64 x / 2 ^ 52 → to_unsigned w x ≡ 0
  negative_part h =
      let b = to_bits binary64 x in
      ap (to_unsigned w) (fields x f ∙ ap (λ (s : Bool). at s (b % 2 ^ 63 / 2 ^ 52) (b % 2 ^ 52)) (le-leb (2 ^ 63) b (high b h)))
      ∙ negative w (b % 2 ^ 63 / 2 ^ 52) (b % 2 ^ 52)
    where
      high : (b : ℕ) → 2048 ≤ b / 2 ^ 52 → 2 ^ 63 ≤ b
      high b h = omega arith
