-- How far `round` moves a fraction: by half a unit of the last digit kept, and so by one part in 2 ^ prec, or by half of the format's smallest value.
use mathlib.Core.Path.{◌≡◌, refl, sym, ap, ◌∙◌, subst}
use mathlib.Core.Logic.{◌⊎◌, inl, inr}
use Prim.Native.Nat.{ℕ, zero, suc, ◌+◌, ◌-◌, ◌*◌, ◌/◌, ◌%◌, ◌^◌, ◌≤◌, ◌<◌, compare}
use native.Mathlib.Nat.{le_trans, le_of_eq, eq-zero-or-pos, mul-one, mul_comm, mul_assoc, mul_left_comm, mul-le-mul_left}
use native.Mathlib.Nat.{le_of_mul-le-mul_right, mul-pos, div-add-mod', mod-lt, le-div_iff_mul-le, mul-div_cancel, mul-mod_left, suc-mul}
use native.Mathlib.Omega.{arith}
use lib.Pow.{pow-add, pow_pos}
use lib.Dec.{lit<}
use lib.Ieee.{size, nearest}
use lib.Ieee.Digits.{size_reaches}
use lib.Ieee.Nearest.{closest}
use lib.Ieee.Order.{drop, kept}
use Rattle.number.proofs.Compare.{by_order}

-- x and y are at most e apart
abbrev pub Within : ℕ → ℕ → ℕ → Type 0
Within x y e = (x ≤ y + e) × (y ≤ x + e)

-- ---- the nearest whole number to a / b is half or less from it
under_half : (w b r : ℕ) → r * 2 < b → Within (w * b * 2) ((w * b + r) * 2) b
under_half w b r h = (omega arith, omega arith)

-- at the half the even one of the two is taken
at_half : (w b r t : ℕ) → t < 2 → r * 2 ≡ b → Within ((w + t) * b * 2) ((w * b + r) * 2) b
at_half w b r zero p h = (omega arith, omega arith)
at_half w b r (suc zero) p h = (omega arith, omega arith)
at_half w b r (suc (suc t)) p h = absurd (omega arith)

over_half : (w b r : ℕ) → r < b → b < r * 2 → Within (suc w * b * 2) ((w * b + r) * 2) b
over_half w b r l h = (omega (arith, suc-mul w b), omega (arith, suc-mul w b))

pub closest_half : (a b : ℕ) → 0 < b → Within (closest a b * b * 2) (a * 2) b
closest_half a b B =
    let w = a / b in
    let r = a % b in
    subst (λ (x : ℕ). Within (closest a b * b * 2) (x * 2) b) (div-add-mod' a b)
    (by_order (r * 2) b (λ o. Within (nearest w o * b * 2) ((w * b + r) * 2) b)
    (under_half w b r)
    (at_half w b r (w % 2) (mod-lt w (lit< tt)))
    (over_half w b r (mod-lt a B)))

-- ---- `round`: the result is `kept` * 2 ^ `drop` units, and n / c the fraction in units
abbrev pub got : ℕ → ℕ → ℕ → ℕ
got p n c = kept p n c * 2 ^ drop p n c

regroup : (p n c : ℕ) → kept p n c * (c * 2 ^ drop p n c) ≡ got p n c * c
regroup p n c = simp (mul_assoc, mul_comm, mul_left_comm)

pub half_unit : (p n c : ℕ) → 0 < c → Within (got p n c * c * 2) (n * 2) (c * 2 ^ drop p n c)
half_unit p n c C = subst (λ (x : ℕ). Within (x * 2) (n * 2) (c * 2 ^ drop p n c)) (regroup p n c) (closest_half n (c * 2 ^ drop p n c) (mul-pos C (pow_pos (drop p n c))))

-- where a digit is dropped the unit is small beside n / c
top_digit : (s p k : ℕ) → k ≡ s - p → 0 < p → 0 < k → p - 1 + k < s
top_digit s p k e P K = omega arith

pub unit_small : (p n c : ℕ) → 0 < p → 0 < c → 0 < drop p n c → 2 ^ (p - 1) * (c * 2 ^ drop p n c) ≤ n
unit_small p n c P C K =
    let k = drop p n c in
    le_trans (le_of_eq (ap (λ (x : ℕ). 2 ^ (p - 1) * x) (mul_comm c (2 ^ k)) ∙ sym (mul_assoc (2 ^ (p - 1)) (2 ^ k) c) ∙ ap (λ (x : ℕ). x * c) (sym (pow-add 2 (p - 1) k))))
    ((le-div_iff_mul-le C).0 (size_reaches (n / c) (p - 1 + k) (top_digit (size (n / c)) p k refl P K)))

-- both bounds times h: h * 2 is 2 ^ p
times : (h g n u e : ℕ) → Within (g * 2) (n * 2) u → h * u ≤ e → Within (g * (h * 2)) (n * (h * 2)) e
times h g n u e w l = (omega (arith, mul-le-mul_left h w.0), omega (arith, mul-le-mul_left h w.1))

-- ---- for binary64: one part in 2 ^ 53, or half of the smallest value
pub error : (n c : ℕ) → 0 < c → Within (got 53 n c * c * 2 ^ 53) (n * 2 ^ 53) (n + c * 2 ^ 52)
error n c C = go (eq-zero-or-pos (drop 53 n c))
  where
    go : (drop 53 n c ≡ 0) ⊎ (0 < drop 53 n c) → Within (got 53 n c * c * 2 ^ 53) (n * 2 ^ 53) (n + c * 2 ^ 52)
    go (inl z) = times (2 ^ 52) (got 53 n c * c) n (c * 2 ^ drop 53 n c) (n + c * 2 ^ 52) (half_unit 53 n c C)
        (let k : c * 2 ^ drop 53 n c ≡ c * 1 = ap (λ (x : ℕ). c * 2 ^ x) z in omega arith)
    go (inr l) = times (2 ^ 52) (got 53 n c * c) n (c * 2 ^ drop 53 n c) (n + c * 2 ^ 52) (half_unit 53 n c C)
        (let k = unit_small 53 n c (lit< tt) C l in omega arith)

-- a whole number of units: one part in 2 ^ 53
exact_closest : (d c : ℕ) → 0 < c → closest (d * c) c ≡ d
exact_closest d c C =
    ap (λ (x : ℕ). nearest x (compare (d * c % c * 2) c)) (mul-div_cancel d C)
    ∙ ap (λ (x : ℕ). nearest d (compare (x * 2) c)) (mul-mod_left d c)
    ∙ by_order 0 c (λ o. nearest d o ≡ d) (λ h. refl) (λ h. absurd (omega arith)) (λ h. absurd (omega arith))

cancel : (g d c : ℕ) → 0 < c → Within (g * c * 2 ^ 53) (d * c * 2 ^ 53) (d * c) → Within (g * 2 ^ 53) (d * 2 ^ 53) d
cancel g d c C w = (le_of_mul-le-mul_right {k = c} (omega (arith, w.0)) C, le_of_mul-le-mul_right {k = c} (omega (arith, w.1)) C)

pub error_whole : (d c : ℕ) → 0 < c → Within (got 53 (d * c) c * 2 ^ 53) (d * 2 ^ 53) d
error_whole d c C = go (eq-zero-or-pos (drop 53 (d * c) c))
  where
    n : ℕ
    n = d * c

    go : (drop 53 (d * c) c ≡ 0) ⊎ (0 < drop 53 (d * c) c) → Within (got 53 (d * c) c * 2 ^ 53) (d * 2 ^ 53) d
    go (inl z) =
        let e : got 53 (d * c) c ≡ d = ap (λ (k : ℕ). closest (d * c) (c * 2 ^ k) * 2 ^ k) z ∙ mul-one (closest (d * c) (c * 1)) ∙ ap (closest (d * c)) (mul-one c) ∙ exact_closest d c C in
        subst (λ (g : ℕ). Within (g * 2 ^ 53) (d * 2 ^ 53) d) (sym e) (omega arith, omega arith)
    go (inr l) =
        cancel (got 53 (d * c) c) d c C
        (times (2 ^ 52) (got 53 (d * c) c * c) (d * c) (c * 2 ^ drop 53 (d * c) c) (d * c) (half_unit 53 (d * c) c C) (unit_small 53 (d * c) c (lit< tt) C l))

-- so a whole number of units is one part in 2 ^ 53 or less above its rounding
pub whole_over : (d c : ℕ) → 0 < c → d * (2 ^ 53 - 1) ≤ got 53 (d * c) c * 2 ^ 53
whole_over d c C = less d (got 53 (d * c) c) (error_whole d c C).1
  where
    less : (d g : ℕ) → d * 2 ^ 53 ≤ g * 2 ^ 53 + d → d * (2 ^ 53 - 1) ≤ g * 2 ^ 53
    less d g h = omega arith
