-- Numbers that are a whole number over a power of two, and the operations on them that lose nothing.
use mathlib.Core.Path.{◌≡◌, refl, sym, ap, ◌∙◌, subst}
use mathlib.Core.Logic.{◌⊎◌, inl, inr}
use mathlib.Core.Bool.{Bool, true, false, cond, and-true}
use Prim.Native.Nat.{ℕ, ◌+◌, ◌-◌, ◌*◌, ◌/◌, ◌%◌, ◌^◌, ◌≤◌, ◌<◌, zero-le, min}
use native.Mathlib.Nat.{le_trans, le_of_eq, eq-or-lt_of_le, lt_of_le_of_lt, mul-one, one-mul, zero-mul, mul_comm, mul_assoc}
use native.Mathlib.Nat.{mul-pos, add-mul, mul-sub, mul-mul-mul_comm, mul-le-mul_right, eq_of_mul-eq-mul_right}
use native.Mathlib.Nat.{min-eq_left, zero-add, mod-eq-sub-div-mul, div-mul-le_self}
use native.Mathlib.Omega.{arith}
use borrow.Author.Tests.{le-ltb, eqb-true}
use lib.Dec.{eqb, lit<, lit≤}
use lib.Pow.{pow_pos, pow-lt, le_ones}
use lib.IntN.{negsuc}
use lib.Ieee.{Float, nan, inf, fin, binary64, up, down, round, sum, eq, of_int, of_bits, to_unsigned, level}
use lib.Ieee.Fits.{down_pos}
use lib.Ieee.Scale.{round_same}
use Rattle.number.specs.Operators.{◌⊕◌, ◌⊖◌, ◌⊗◌, ◌==?◌}
use Rattle.number.specs.Helpers.{positive_zero, one}
use Rattle.number.specs.Units.{units_in_one}
use Rattle.number.proofs.Powers.{pow_sum}
use Rattle.number.proofs.Values.{Is, Held, add_is, sub_is, mul_is}
use Rattle.number.proofs.Sums.{round_held}
use Rattle.number.proofs.Fields.{normal_bits}
use Rattle.remainder.specs.Machine.{double, int, power, scalbn}
use Rattle.remainder.specs.Kernel.{two24, twon24, eight, eighth}
use Rattle.remainder.proofs.Truncation.{cut, shift}

-- x is A / 2 ^ k, and not negative
abbrev pub Of : Float → ℕ → ℕ → Type 0
Of x A k = (k ≤ 1074) × Is x false (A * 2 ^ (1074 - k))

-- ---- rounding such a number

held : (A j : ℕ) → A ≤ 2 ^ 53 → Held (A * 2 ^ j)
held A j h = go (eq-or-lt_of_le h)
  where
    go : (A ≡ 2 ^ 53) ⊎ (A < 2 ^ 53) → Held (A * 2 ^ j)
    go (inl e) = (1, 53 + j, lit< tt, ap (λ (n : ℕ). n * 2 ^ j) e ∙ pow_sum 53 j (53 + j) refl ∙ sym (one-mul (2 ^ (53 + j))))
    go (inr l) = (A, j, l, refl)

under_top : (A j : ℕ) → A ≤ 2 ^ 53 → j ≤ 1074 → A * 2 ^ j < 2 ^ 2098
under_top A j h l =
    lt_of_le_of_lt (le_trans (mul-le-mul_right (2 ^ j) h) (le_of_eq (pow_sum 53 j (53 + j) refl))) (pow-lt {i = 53 + j} {j = 2098} (omega arith))

-- n / c is A / 2 ^ k
round_of : (n c A k : ℕ) → 0 < c → A ≤ 2 ^ 53 → k ≤ 1074 → n * units_in_one ≡ A * 2 ^ (1074 - k) * c → Of (round binary64 false n c) A k
round_of n c A k C h K e =
    let a = A * 2 ^ (1074 - k) in (
      K,
      subst (λ (x : Float). Is x false a) (sym (round_same binary64 false n c a units_in_one C (pow_pos 1074) e))
          (round_held false a (held A (1074 - k) h) (under_top A (1074 - k) h (let d : 1074 - k ≤ 1074 = omega arith in d))),
    )

-- ---- the operations

pub double_of : (A : ℕ) → A ≤ 2 ^ 53 → Of (double A) A 0
unfolding of_int
double_of A h = round_of A 1 A 0 (lit< tt) h zero-le (sym (mul-one (A * units_in_one)))

pub plus_of : (x y : Float) (A B k : ℕ) → Of x A k → Of y B k → A + B ≤ 2 ^ 53 → Of (x ⊕ y) (A + B) k
plus_of x y A B k p q h =
    let u = 2 ^ (1074 - k) in
    subst (λ (z : Float). Of z (A + B) k) (sym (add_is x y false false (A * u) (B * u) p.1 q.1))
    (unfold sum in round_of (A * u + B * u) units_in_one (A + B) k (pow_pos 1074) h p.0 (ap (λ (n : ℕ). n * units_in_one) (sym (add-mul A B u))))

pub minus_of : (x y : Float) (A B k : ℕ) → Of x A k → Of y B k → B ≤ A → A ≤ 2 ^ 53 → Of (x ⊖ y) (A - B) k
minus_of x y A B k p q l h =
    let u = 2 ^ (1074 - k) in
    subst (λ (z : Float). Of z (A - B) k) (sym (sub_is x y false false (A * u) (B * u) p.1 q.1))
    (unfold sum in
    subst (λ (t : Bool). Of (cond t (round binary64 true (B * u - A * u) units_in_one) (round binary64 false (A * u - B * u) units_in_one)) (A - B) k)
    (sym (le-ltb (A * u) (B * u) (mul-le-mul_right u l)))
    (round_of (A * u - B * u) units_in_one (A - B) k (pow_pos 1074) (let e : A - B ≤ 2 ^ 53 = omega arith in e) p.0
    (ap (λ (n : ℕ). n * units_in_one) (minus A B u))))
  where
    minus : (A B u : ℕ) → A * u - B * u ≡ (A - B) * u
    minus A B u = ap (λ (n : ℕ). n - B * u) (mul_comm A u) ∙ ap (λ (n : ℕ). u * A - n) (mul_comm B u) ∙ sym (mul-sub u A B) ∙ mul_comm u (A - B)

pub times_of : (x y : Float) (A B k l : ℕ) → Of x A k → Of y B l → A * B ≤ 2 ^ 53 → k + l ≤ 1074 → Of (x ⊗ y) (A * B) (k + l)
times_of x y A B k l p q h K =
    let u = 2 ^ (1074 - k) in
    let v = 2 ^ (1074 - l) in
    subst (λ (z : Float). Of z (A * B) (k + l)) (sym (mul_is x y false false (A * u) (B * v) p.1 q.1))
    (round_of (A * u * (B * v)) (units_in_one * units_in_one) (A * B) (k + l) (mul-pos (pow_pos 1074) (pow_pos 1074)) h K (product A B k l 1074 K))
  where
    product : (A B k l m : ℕ) → k + l ≤ m → A * 2 ^ (m - k) * (B * 2 ^ (m - l)) * 2 ^ m ≡ A * B * 2 ^ (m - (k + l)) * (2 ^ m * 2 ^ m)
    product A B k l m h =
        let n = m - (k + l) + m in
        ap (λ (i : ℕ). i * 2 ^ m)
        (mul-mul-mul_comm A (2 ^ (m - k)) B (2 ^ (m - l))
        ∙ ap (λ (i : ℕ). A * B * i) (pow_sum (m - k) (m - l) n (omega arith) ∙ sym (pow_sum (m - (k + l)) m n refl))
        ∙ sym (mul_assoc (A * B) (2 ^ (m - (k + l))) (2 ^ m)))
        ∙ mul_assoc (A * B * 2 ^ (m - (k + l))) (2 ^ m) (2 ^ m)

-- A * 2 ^ d over 2 ^ (k + d) is A over 2 ^ k, in units
coarser : (A k d : ℕ) → k + d ≤ 1074 → A * 2 ^ d * 2 ^ (1074 - (k + d)) ≡ A * 2 ^ (1074 - k)
coarser A k d h =
    mul_assoc A (2 ^ d) (2 ^ (1074 - (k + d))) ∙ ap (λ (n : ℕ). A * n) (pow_sum d (1074 - (k + d)) (1074 - k) (omega arith))

pub coarser_of : (x : Float) (A k d : ℕ) → Of x (A * 2 ^ d) (k + d) → Of x A k
coarser_of x A k d p = let h = p.0 in (omega (arith, h), subst (Is x false) (coarser A k d h) p.1)

-- a whole number over a power of two
pub whole_over : (x : Float) (A d : ℕ) → Of x A 0 → d ≤ 1074 → Of x (A * 2 ^ d) d
whole_over x A d p h = subst (Of x (A * 2 ^ d)) (zero-add d) (let l : 0 + d ≤ 1074 = omega arith in (l, subst (Is x false) (sym (coarser A 0 d l)) p.1))

-- ---- constants

pub two24_of : Of two24 (2 ^ 24) 0
unfolding of_bits
two24_of = (zero-le, (refl, refl))

pub twon24_of : Of twon24 1 24
unfolding of_bits
twon24_of = (lit≤ tt, (refl, refl))

pub eight_of : Of eight 8 0
unfolding of_bits
eight_of = (zero-le, (refl, refl))

pub eighth_of : Of eighth 1 3
unfolding of_bits
eighth_of = (lit≤ tt, (refl, refl))

pub one_of : Of one 1 0
unfolding of_bits
one_of = (zero-le, (refl, refl))

pub zero_of : Of positive_zero 0 0
unfolding of_bits
zero_of = (zero-le, (refl, refl))

power_down_of : (n : ℕ) → n ≤ 1000 → Of (power (negsuc n)) 1 (n + 1)
power_down_of n h = (
  omega arith,
  subst (Is (power (negsuc n)) false) (pow_sum 52 (1021 - n) (1074 - (n + 1)) (omega arith) ∙ sym (one-mul (2 ^ (1074 - (n + 1)))))
      (normal_bits ((1022 - n) * 2 ^ 52) (1021 - n) 0 (omega arith) (lit< tt) (omega arith)),
)

pub scalbn_of : (x : Float) (A n : ℕ) → Of x A 0 → A ≤ 2 ^ 53 → n ≤ 1000 → Of (scalbn x (negsuc n)) A (n + 1)
scalbn_of x A n p l h =
    subst (λ (i : ℕ). Of (scalbn x (negsuc n)) i (n + 1)) (mul-one A)
    (subst (Of (scalbn x (negsuc n)) (A * 1)) (zero-add (n + 1))
    (times_of x (power (negsuc n)) A 1 0 (n + 1) p (power_down_of n h) (omega arith) (omega arith)))

-- ---- the whole part

pub whole_of : (w : ℕ) (x : Float) (A k : ℕ) → Of x A k → A / 2 ^ k < 2 ^ w → to_unsigned w x ≡ A / 2 ^ k
whole_of w x A k p h =
    cut w x (A * 2 ^ (1074 - k)) units_in_one (pow_pos 1074) p.1
    ∙ ap (λ (n : ℕ). min n (2 ^ w - 1)) (shift A (1074 - k) k (let l = p.0 in omega (arith, l)))
    ∙ min-eq_left (le_ones w h)

pub int_of : (x : Float) (A k : ℕ) → Of x A k → A / 2 ^ k < 2 ^ 31 → int x ≡ A / 2 ^ k
int_of x A k p h = whole_of 31 x A k p h

-- as a number, and what it leaves
module _ (x : Float) (A k : ℕ) (p : Of x A k) (h : A / 2 ^ k < 2 ^ 31) where
  pub floor_of : Of (double (int x)) (A / 2 ^ k) 0
  floor_of = subst (λ (n : ℕ). Of (double n) (A / 2 ^ k) 0) (sym (int_of x A k p h)) (double_of (A / 2 ^ k) (omega arith))

  pub fraction_of : A ≤ 2 ^ 53 → Of (x ⊖ double (int x)) (A % 2 ^ k) k
  fraction_of l =
      subst (λ (n : ℕ). Of (x ⊖ double (int x)) n k) (sym (mod-eq-sub-div-mul A (2 ^ k)))
      (minus_of x (double (int x)) A (A / 2 ^ k * 2 ^ k) k p (whole_over (double (int x)) (A / 2 ^ k) k floor_of p.0) (div-mul-le_self A (2 ^ k)) l)

-- ---- a test

-- a number of a units that is told to be 0
zero_units : (x : Float) (a : ℕ) → Is x false a → (x ==? positive_zero) ≡ true → a ≡ 0
unfolding eq of_bits
zero_units nan a h t = absurd h
zero_units (inf s) a h t = absurd h
zero_units (fin s m e) a h t =
    none (m * up e) (down e) a (down_pos e) h.1
    (eqb-true (m * up e * 1) (0 * 1 * down e)
    (sym (and-true (eqb (m * up e * 1) (0 * 1 * down e))) ∙ ap (λ (s : Bool). level s (m * up e * 1) false (0 * 1 * down e)) (sym h.0) ∙ t))
  where
    none : (m d a : ℕ) → 0 < d → m * units_in_one ≡ a * d → m * 1 ≡ 0 * 1 * d → a ≡ 0
    none m d a D h e =
        let z : m ≡ 0 = omega arith in
        eq_of_mul-eq-mul_right d D a 0 (sym h ∙ ap (λ (n : ℕ). n * units_in_one) z ∙ sym (zero-mul d))

pub told_zero : (x : Float) (A k : ℕ) → Of x A k → (x ==? positive_zero) ≡ true → A ≡ 0
told_zero x A k p t =
    let u = 2 ^ (1074 - k) in
    eq_of_mul-eq-mul_right u (pow_pos (1074 - k)) A 0 (zero_units x (A * u) p.1 t ∙ sym (zero-mul u))
