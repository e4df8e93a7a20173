-- The values of binary64 among the whole numbers of units: none lies between two neighbours.
use mathlib.Core.Path.{◌≡◌, sym, ap, ◌∙◌, subst}
use Prim.Native.Nat.{ℕ, ◌+◌, ◌-◌, ◌*◌, ◌^◌, ◌≤◌, ◌<◌}
use native.Mathlib.Nat.{le_trans, le_of_eq, le_of_lt, lt_of_le_of_lt, lt_of_not-le, not-le_of_lt, mul_assoc, mul-le-mul_right, lt_of_mul-lt-mul_right}
use native.Mathlib.Omega.{arith}
use native.Mathlib.Numerals.{add-one}
use lib.Pow.{pow-add, pow_mono, shl_lt}
use Rattle.number.proofs.Values.{Held}

-- ---- from 2 ^ (52 + k) units on a value is a whole multiple of 2 ^ k
pub pow_lt_back : (i p : ℕ) → 2 ^ i < 2 ^ p → i < p
pow_lt_back i p h = lt_of_not-le (λ (g : p ≤ i). not-le_of_lt h (pow_mono g))

below : (k j : ℕ) → 52 + k < 53 + j → k ≤ j
below k j h = omega arith

pub multiple : (c k : ℕ) → Held c → 2 ^ (52 + k) ≤ c → (m : ℕ) × (c ≡ m * 2 ^ k)
multiple c k h l =
    let p = h.0 in
    let j = h.1 in
    let kj : k ≤ j = below k j (pow_lt_back (52 + k) (53 + j) (lt_of_le_of_lt l (lt_of_le_of_lt (le_of_eq h.3) (shl_lt 53 j h.2)))) in
    (p * 2 ^ (j - k), h.3 ∙ ap (λ (x : ℕ). p * 2 ^ x) (sym (back j k kj)) ∙ ap (λ (x : ℕ). p * x) (pow-add 2 (j - k) k) ∙ sym (mul_assoc p (2 ^ (j - k)) (2 ^ k)))
  where
    back : (j k : ℕ) → k ≤ j → j - k + k ≡ j
    back j k h = omega arith

-- so the next value above q * 2 ^ k is (q + 1) * 2 ^ k, and none lies between q * 2 ^ k and (q + 1) * 2 ^ k, for a q of 53 digits
mul_back : (m q k : ℕ) → q * 2 ^ k < m * 2 ^ k → q < m
mul_back m q k h = lt_of_mul-lt-mul_right (2 ^ k) h

grid_low : (q k : ℕ) → 2 ^ 52 ≤ q → 2 ^ (52 + k) ≤ q * 2 ^ k
grid_low q k h = le_trans (le_of_eq (pow-add 2 52 k)) (mul-le-mul_right (2 ^ k) h)

pub above_next : (c q k : ℕ) → Held c → 2 ^ 52 ≤ q → q * 2 ^ k < c → (q + 1) * 2 ^ k ≤ c
above_next c q k h lo l =
    let m = multiple c k h (le_trans (grid_low q k lo) (le_of_lt l)) in
    le_trans (mul-le-mul_right (2 ^ k) (le_trans (le_of_eq (add-one q)) (mul_back m.0 q k (subst (λ (x : ℕ). q * 2 ^ k < x) m.1 l)))) (le_of_eq (sym m.1))

pub under_next : (c q k : ℕ) → Held c → 2 ^ 52 ≤ q → c < (q + 1) * 2 ^ k → c ≤ q * 2 ^ k
under_next c q k h lo l = go (native.Mathlib.Decide.dec_le c (q * 2 ^ k))
  where
    go : Dec (c ≤ q * 2 ^ k) → c ≤ q * 2 ^ k
    go (yes g) = g
    go (no f) = absurd (not-le_of_lt l (above_next c q k h lo (lt_of_not-le f)))
