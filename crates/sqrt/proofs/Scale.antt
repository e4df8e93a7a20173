-- Every root is that of m * 2 ^ (g + 52), for an m of 53 digits, and so of M * 4 ^ j, for an M of 105 or 106 digits.
use Rattle.std.proofs.Common.{◌≡◌, ℕ, zero, suc, ◌+◌, ◌-◌, ◌*◌, ◌/◌, ◌%◌, ◌^◌, ◌<◌, ◌≤◌, sym, ap, ◌∙◌, le_trans, le_of_eq, lt_of_lt_of_le, lt_of_le_of_lt, mul-le-mul_right, mod-eq_of_lt, mul_assoc, mul-lt-mul_of_pos_right, arith, lit≤, pow_pos, pow_mono, pow-add}
use lib.Count.{count_leading_zeros, leading_top}
use Rattle.number.specs.Units.{units_in_one}
use Rattle.number.proofs.Neighbours.{pow_lt_back}

-- ---- by whether g is odd
split_sum : (g : ℕ) → g + 52 ≡ g % 2 + 52 + (g / 2 + g / 2)
split_sum g = omega arith

pub split : (m g : ℕ) → m * 2 ^ (g + 52) ≡ m * 2 ^ (g % 2) * 2 ^ 52 * (2 ^ (g / 2) * 2 ^ (g / 2))
split m g =
    let r = g % 2 in
    let h = g / 2 in
    let e = pow-add 2 (r + 52) (h + h) ∙ ap (λ (x : ℕ). x * 2 ^ (h + h)) (pow-add 2 r 52) ∙ ap (λ (x : ℕ). 2 ^ r * 2 ^ 52 * x) (pow-add 2 h h) in
    ap (λ (x : ℕ). m * 2 ^ x) (split_sum g) ∙ ap (λ (x : ℕ). m * x) e ∙ simp (mul_assoc)

pub doubled : (m p : ℕ) → 2 ^ 52 ≤ m → m < 2 ^ 53 → p < 2 → (2 ^ 52 ≤ m * 2 ^ p) × (m * 2 ^ p < 2 ^ 54)
doubled m zero lo hi h = (omega arith, omega arith)
doubled m (suc zero) lo hi h = (omega arith, omega arith)
doubled m (suc (suc p)) lo hi h = absurd (omega arith)

pub in_range : (a : ℕ) → (2 ^ 52 ≤ a) × (a < 2 ^ 54) → (2 ^ 104 ≤ a * 2 ^ 52) × (a * 2 ^ 52 < 2 ^ 106)
in_range a h = (mul-le-mul_right (2 ^ 52) h.0, mul-lt-mul_of_pos_right h.1 (pow_pos 52))

-- ---- a number above 0 and below 2 ^ 53, shifted up to 53 digits
pub record Shifted (sig z : ℕ) : Type 0 where
  pub few : z ≤ 52
  pub lo : 2 ^ 52 ≤ sig * 2 ^ z
  pub hi : sig * 2 ^ z < 2 ^ 53

counts : (lz j : ℕ) → lz + suc j ≡ 64 → j < 53 → (11 ≤ lz) × (lz - 11 ≤ 52) × (j + (lz - 11) ≡ 52) × (suc j + (lz - 11) ≡ 53)
counts lz j e h = (omega arith, omega arith, omega arith, omega arith)

pub shifted : (sig : ℕ) → 0 < sig → sig < 2 ^ 53 → (11 ≤ count_leading_zeros 64 sig) × Shifted sig (count_leading_zeros 64 sig - 11)
shifted sig P S =
    let l = leading_top 64 sig P (lt_of_lt_of_le S (pow_mono {i = 53} {j = 64} (lit≤ tt))) in
    let j = l.0 in
    let z = count_leading_zeros 64 sig - 11 in
    let c = counts (count_leading_zeros 64 sig) j l.1 (pow_lt_back j 53 (lt_of_le_of_lt l.2 S)) in (
      c.0,
      record {
        few = c.1;
        lo = le_trans (le_of_eq (ap (λ (x : ℕ). 2 ^ x) (sym c.2) ∙ pow-add 2 j z)) (mul-le-mul_right (2 ^ z) l.2);
        hi = lt_of_lt_of_le (mul-lt-mul_of_pos_right l.3 (pow_pos z)) (le_of_eq (sym (pow-add 2 (suc j) z) ∙ ap (λ (x : ℕ). 2 ^ x) c.3));
      },
    )

-- a shift to the left that drops no bit
pub shift_is : (sig z k : ℕ) → k ≤ 64 → sig * 2 ^ z < 2 ^ k → (sig * 2 ^ z) % 2 ^ 64 ≡ sig * 2 ^ z
shift_is sig z k h l = mod-eq_of_lt (lt_of_lt_of_le l (pow_mono {i = k} {j = 64} h))

-- sig * 2 ^ i units
pub scaled : (sig i z : ℕ) → z ≤ 52 → sig * 2 ^ i * units_in_one ≡ sig * 2 ^ z * 2 ^ (i + 1022 - z + 52)
scaled sig i z h =
    mul_assoc sig (2 ^ i) (2 ^ 1074)
    ∙ ap (λ (x : ℕ). sig * x) (sym (pow-add 2 i 1074) ∙ ap (λ (x : ℕ). 2 ^ x) (sum i z h) ∙ pow-add 2 z (i + 1022 - z + 52))
    ∙ sym (mul_assoc sig (2 ^ z) (2 ^ (i + 1022 - z + 52)))
  where
    sum : (i z : ℕ) → z ≤ 52 → i + 1074 ≡ z + (i + 1022 - z + 52)
    sum i z h = omega arith
