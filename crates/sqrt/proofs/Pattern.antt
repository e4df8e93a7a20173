-- The bit pattern of q * 2 ^ k units, for a q of 53 digits, or 2 ^ 53: k * 2 ^ 52 + q.
use Rattle.std.proofs.Common.{◌≡◌, ℕ, suc, ◌+◌, ◌-◌, ◌*◌, ◌/◌, ◌^◌, ◌<◌, ◌≤◌, Bool, true, false, cond, T, ltb, sym, ap, ◌∙◌, inl, inr, true≢false, le_trans, le_of_eq, le_refl, lt_of_lt_of_le, lt_of_le_of_lt, mul-le-mul_right, mul-le-mul, eq-or-lt_of_le, mul-lt-mul_of_pos_right, zero-add, mul-div_cancel, arith, lit<, lit≤, ltb→lt, lt→ltb, pow_pos, pow_mono, pow-add}
use lib.Pow.{pow-lt}
use lib.Ieee.{Float, inf, fin, binary64, down, size, odd, units, fits, to_bits, of_bits, nan_bits}
use lib.Ieee.Fits.{odd-fits, down_pos}
use lib.Ieee.Bits.{of_bits-to_bits}
use lib.Ieee.Exact.{HasValue, units_val}
use lib.Ieee.Scale.{finite}
use Rattle.sqrt.proofs.Rounded.{dropped}

pub units_fits : (q k : ℕ) → q ≤ 2 ^ 53 → T (fits binary64 (units binary64 false q k))
unfolding units
units_fits q k a = go (ltb (q * 2 ^ k) (2 ^ 2098)) (ltb→lt (q * 2 ^ k) (2 ^ 2098))
  where
    go : (b : Bool) → (T b → q * 2 ^ k < 2 ^ 2098) → T (fits binary64 (cond b (odd 54 false q k 1074) (inf false)))
    go true h = odd-fits binary64 54 false q k (lt_of_le_of_lt a (pow-lt (le_refl 54))) a (h tt)
    go false h = unfold fits in tt

pub odd_finite : (d : ℕ) (s : Bool) (q k l : ℕ) → T (finite (odd d s q k l))
unfolding odd
odd_finite d s Prim.Native.Nat.zero k l = tt
odd_finite d s (suc q) k l = tt

pub units_finite : (q k : ℕ) → q * 2 ^ k < 2 ^ 2098 → T (finite (units binary64 false q k))
unfolding units
units_finite q k h = go (ltb (q * 2 ^ k) (2 ^ 2098)) (lt→ltb (q * 2 ^ k) (2 ^ 2098) h)
  where
    go : (b : Bool) → T b → T (finite (cond b (odd 54 false q k 1074) (inf false)))
    go true t = odd_finite 54 false q k 1074
    go false t = absurd t

-- the bits of a value that is a units
pub to_bits_of : (v : Float) (a : ℕ) → HasValue v false a (2 ^ 1074) → to_bits binary64 v ≡ (size a - 53) * 2 ^ 52 + a / 2 ^ (size a - 53)
unfolding to_bits
to_bits_of (fin true m e) a h = absurd (true≢false h.0)
to_bits_of (fin false m e) a h =
    ap (λ (n : ℕ). 0 + (size n - 53) * 2 ^ 52 + n / 2 ^ (size n - 53)) (ap (λ (x : ℕ). x / down e) h.1 ∙ mul-div_cancel a (down_pos e))
    ∙ ap (λ (n : ℕ). n + a / 2 ^ (size a - 53)) (zero-add ((size a - 53) * 2 ^ 52))
to_bits_of lib.Ieee.nan a h = elim h [ ]
to_bits_of (inf _) a h = elim h [ ]

-- a number of 53 digits with j zeros after it drops those
field : (q j : ℕ) → 2 ^ 52 ≤ q → q < 2 ^ 53 → (size (q * 2 ^ j) - 53) * 2 ^ 52 + q * 2 ^ j / 2 ^ (size (q * 2 ^ j) - 53) ≡ j * 2 ^ 52 + q
field q j lo hi =
    ap (λ (k : ℕ). k * 2 ^ 52 + q * 2 ^ j / 2 ^ k)
    (dropped (q * 2 ^ j) j (lt_of_lt_of_le (mul-lt-mul_of_pos_right hi (pow_pos j)) (le_of_eq (sym (pow-add 2 53 j)))) (le_trans (le_of_eq (pow-add 2 52 j)) (mul-le-mul_right (2 ^ j) lo)))
    ∙ ap (λ (x : ℕ). j * 2 ^ 52 + x) (mul-div_cancel q (pow_pos j))

-- 2 ^ 53 is 2 ^ 52 with one zero more
carried : (j : ℕ) → 2 ^ 53 * 2 ^ j ≡ 2 ^ 52 * 2 ^ suc j
carried j = sym (pow-add 2 53 j) ∙ ap (λ (x : ℕ). 2 ^ x) (plus j) ∙ pow-add 2 52 (suc j)
  where
    plus : (j : ℕ) → 53 + j ≡ 52 + suc j
    plus j = omega arith

field' : (q j : ℕ) → 2 ^ 52 ≤ q → q ≤ 2 ^ 53 → (size (q * 2 ^ j) - 53) * 2 ^ 52 + q * 2 ^ j / 2 ^ (size (q * 2 ^ j) - 53) ≡ j * 2 ^ 52 + q
field' q j lo hi = elim (eq-or-lt_of_le hi) [
  | inl e ↦
      ap (λ (x : ℕ). (size x - 53) * 2 ^ 52 + x / 2 ^ (size x - 53)) (ap (λ (x : ℕ). x * 2 ^ j) e ∙ carried j)
      ∙ field (2 ^ 52) (suc j) (lit≤ tt) (lit< tt)
      ∙ last j q e
  | inr l ↦ field q j lo l
]
  where
    last : (j q : ℕ) → q ≡ 2 ^ 53 → suc j * 2 ^ 52 + 2 ^ 52 ≡ j * 2 ^ 52 + q
    last j q e = omega arith

-- a root's exponent is far below the top
pub under_top : (q k : ℕ) → q ≤ 2 ^ 53 → k ≤ 1533 → q * 2 ^ k < 2 ^ 2098
under_top q k a b = lt_of_le_of_lt (mul-le-mul a (pow_mono b)) (lit< tt)

pub bits_units : (q k : ℕ) → 2 ^ 52 ≤ q → q ≤ 2 ^ 53 → k ≤ 1533 → of_bits binary64 (k * 2 ^ 52 + q) ≡ units binary64 false q k
bits_units q k lo hi top =
    ap (of_bits binary64) (sym (to_bits_of (units binary64 false q k) (q * 2 ^ k) (units_val binary64 false q k (under_top q k hi top)) ∙ field' q k lo hi))
    ∙ of_bits-to_bits binary64 (units binary64 false q k) (units_fits q k hi)
