-- The root of a finite number above 0 is the nearest number.
use Rattle.std.proofs.Common.{◌≡◌, ℕ, zero, suc, ◌+◌, ◌*◌, ◌^◌, ◌<◌, ◌≤◌, false, T, ◌⊎◌, sym, subst, inl, inr, le_trans, le_of_eq, lt_of_lt_of_le, le_of_suc-le-suc, lt_of_le_of_lt, mul-le-mul_right, mul_assoc, mul-le-mul, eq-or-lt_of_le, mul-le-mul_left, mul-lt-mul_of_pos_right, mul-pos, add-one, arith, pow_pos}
use Rattle.std.proofs.lemmas.Nat.{mul-lt}
use native.Mathlib.Nat.{mul-mul-mul_comm}
use lib.Ieee.{Float, binary64, fits}
use lib.Ieee.Scale.{finite}
use Rattle.number.specs.Units.{units_in_one, mag}
use Rattle.number.proofs.Values.{is_own_lem, Held, held}
use Rattle.number.proofs.Neighbours.{above_next, under_next}
use Rattle.sqrt.specs.SquareRoot.{Farther, AboveZero, NearestRoot}
use Rattle.sqrt.specs.Sqrt.{sqrt_of}
use Rattle.sqrt.specs.Nearest.{Nearest}
use Rattle.sqrt.proofs.Pattern.{units_fits, units_finite, under_top}
use Rattle.sqrt.proofs.Shape.{Shape, shape, root_is}

-- ---- the arithmetic: U is 2 ^ j, the result is g * U, the exact root that of M * (U * U)
farther_above : (M g U c : ℕ) → 0 < U → Nearest M g → (g + 1) * U ≤ c → 4 * (M * (U * U)) < (g * U + c) * (g * U + c)
farther_above M g U c P h l =
    lt_of_lt_of_le
    (lt_of_le_of_lt (le_of_eq (sym (mul_assoc 4 M (U * U))))
    (lt_of_lt_of_le (mul-lt-mul_of_pos_right (middle M g h.high) (mul-pos P P)) (le_of_eq (mul-mul-mul_comm (2 * g + 1) (2 * g + 1) U U))))
    (mul-le-mul (sum g U c l) (sum g U c l))
  where
    middle : (M g : ℕ) → M ≤ g * g + g → 4 * M < (2 * g + 1) * (2 * g + 1)
    middle M g h = omega arith

    sum : (g U c : ℕ) → (g + 1) * U ≤ c → (2 * g + 1) * U ≤ g * U + c
    sum g U c l = omega arith

farther_below : (M k U c : ℕ) → 0 < U → Nearest M (k + 1) → c ≤ k * U → ((k + 1) * U + c) * ((k + 1) * U + c) < 4 * (M * (U * U))
farther_below M k U c P h l =
    lt_of_le_of_lt (mul-le-mul (sum k U c l) (sum k U c l))
    (lt_of_le_of_lt (le_of_eq (mul-mul-mul_comm (2 * k + 1) U (2 * k + 1) U))
    (lt_of_lt_of_le (mul-lt-mul_of_pos_right (middle M k h.low) (mul-pos P P)) (le_of_eq (mul_assoc 4 M (U * U)))))
  where
    middle : (M k : ℕ) → (k + 1) * (k + 1) < M + (k + 1) → (2 * k + 1) * (2 * k + 1) < 4 * M
    middle M k h = omega arith

    sum : (k U c : ℕ) → c ≤ k * U → (k + 1) * U + c ≤ (2 * k + 1) * U
    sum k U c l = omega arith

-- below a power of two the numbers stand closer, but there the root is no less than the result
farther_power : (M g U c : ℕ) → g * g ≤ M → c < g * U → (g * U + c) * (g * U + c) < 4 * (M * (U * U))
farther_power M g U c h l = lt_of_lt_of_le (let h : g * U + c < g * U + g * U = omega arith in mul-lt (g * U + c) (g * U + c) (g * U + g * U) (g * U + g * U) h h) (le_trans (le_of_eq (re g U)) (mul-le-mul_left 4 (mul-le-mul_right (U * U) h)))
  where
    re : (g U : ℕ) → (g * U + g * U) * (g * U + g * U) ≡ 4 * (g * g * (U * U))
    re g U = omega arith

farther : (x : Float) (s : Shape x) (c : ℕ) → Held c → Farther (s.M * (2 ^ s.j * 2 ^ s.j)) (s.g * 2 ^ s.j) c
farther x s c h = (
  λ l. farther_above s.M s.g (2 ^ s.j) c (pow_pos s.j) s.near (above_next c s.g s.j h s.lo l),
  λ l. below s.g s.near s.lo l (eq-or-lt_of_le s.lo),
)
  where
    below : (g : ℕ) → Nearest s.M g → 2 ^ 52 ≤ g → c < g * 2 ^ s.j → (2 ^ 52 ≡ g) ⊎ (2 ^ 52 < g) → (g * 2 ^ s.j + c) * (g * 2 ^ s.j + c) < 4 * (s.M * (2 ^ s.j * 2 ^ s.j))
    below g n lo l (inl e) = farther_power s.M g (2 ^ s.j) c (subst (λ (y : ℕ). y * y ≤ s.M) e s.above) l
    below zero n lo l (inr p) = absurd (omega arith)
    below (suc k) n lo l (inr p) =
        let near = subst (Nearest s.M) (sym (add-one k)) n in
        let u = under_next c k s.j h (le_of_suc-le-suc p) (subst (λ (y : ℕ). c < y * 2 ^ s.j) (sym (add-one k)) l) in
        subst (λ (y : ℕ). (y * 2 ^ s.j + c) * (y * 2 ^ s.j + c) < 4 * (s.M * (2 ^ s.j * 2 ^ s.j))) (add-one k)
        (farther_below s.M k (2 ^ s.j) c (pow_pos s.j) near u)

-- of a finite number above 0
pub sqrt_correct : (x : Float) → T (fits binary64 x) → AboveZero x → NearestRoot (mag x * units_in_one) (sqrt_of x)
sqrt_correct x f a =
    let s = shape x f a.0 a.1 a.2 in
    let o = is_own_lem (sqrt_of x) false (s.g * 2 ^ s.j) (root_is x s) in
    record {
      at_least = record {
        held = subst (λ (y : Float). T (fits binary64 y)) (sym s.root) (units_fits s.g s.j s.hi);
        is_finite = subst (λ (y : Float). T (finite y)) (sym s.root) (units_finite s.g s.j (under_top s.g s.j s.hi s.few));
        sign = o.0;
      };
      above = subst (λ (k : ℕ). 0 < k) (sym o.1) (mul-pos (lt_of_lt_of_le (pow_pos 52) s.lo) (pow_pos s.j));
      farther = λ y h. rw (s.is, o.1) (farther x s (mag y) (held y h.held h.is_finite));
    }
