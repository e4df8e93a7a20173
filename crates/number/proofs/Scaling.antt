-- Products by a tenth and by a half.
use mathlib.Core.Path.{◌≡◌, refl, sym, ap, ◌∙◌, subst}
use Prim.Native.Nat.{ℕ, zero, suc, ◌-◌, ◌*◌, ◌^◌, ◌≤◌, ◌<◌}
use native.Mathlib.Nat.{le_of_lt, lt_of_le_of_lt, mul-one, mul_assoc, mul-pos, mul-le-mul_left, mul-le-mul_right, div-lt_iff_lt-mul, pow-suc}
use native.Mathlib.Omega.{arith}
use mathlib.Core.Bool.{Bool, true, false}
use lib.Dec.{T, lit<, lit≤}
use lib.Pow.{pow_pos}
use lib.Ieee.{Float, nan, inf, fin, binary64, size, round, of_bits, fits}
use lib.Ieee.Digits.{size-lt, size_reaches}
use lib.Ieee.Fits.{down_pos}
use lib.Ieee.Order.{round_mono}
use lib.Ieee.Scale.{finite, round_same}
use lib.Ieee.Positive.{positive, num, den, den_pos, positive-finite, own_value, mul_at}
use Rattle.number.specs.Operators.{◌⊗◌, ◌≤?◌}
use Rattle.number.specs.Helpers.{half, tenth}
use Rattle.number.specs.Units.{units_in_one, mag, neg?}
use Rattle.number.proofs.Values.{Is, Held, whole, held, below_top, mul_is}
use Rattle.number.proofs.Neighbours.{multiple}
use Rattle.number.proofs.Sums.{round_held, unlike_false}
use Rattle.number.proofs.Order.{le_through, mag→le}

half_is : Is half false (2 ^ 1073)
unfolding of_bits
half_is = (refl, refl)

-- a product of n units of units that binary64 holds as k units is exact
round_product : (s : Bool) (n k : ℕ) → n ≡ k * units_in_one → Held k → k < 2 ^ 2098 → Is (round binary64 s n (units_in_one * units_in_one)) s k
round_product s n k e h top =
    let q = ap (λ (x : ℕ). x * units_in_one) e ∙ mul_assoc k units_in_one units_in_one in
    let r = round_same binary64 s n (units_in_one * units_in_one) k units_in_one (mul-pos (pow_pos 1074) (pow_pos 1074)) (pow_pos 1074) q in
    subst (λ (x : Float). Is x s k) (sym r) (round_held s k h top)

-- ---- a tenth of c is at most c, whatever c's format, and so what is at most a tenth of c is at most c

tenth_is : Is tenth false (mag tenth)
unfolding of_bits
tenth_is = (refl, refl)

twice_tenth : mag tenth * 2 ≤ units_in_one
unfolding of_bits
twice_tenth = lit≤ tt

pub unsigned : (c : Float) → T (positive c) → neg? c ≡ false
unsigned nan t = absurd t
unsigned (inf s) t = absurd t
unsigned (fin true m e) t = absurd t
unsigned (fin false m e) t = refl

module _ (c : Float) (q : T (positive c)) (p : 0 < mag c) (top : mag c < 2 ^ 2098) where
  -- the power of two at or below the whole units in c
  places : ℕ
  places = size (mag c) - 1

  some_places : suc places ≡ size (mag c)
  unfolding places
  some_places = let h = size-lt (mag c) in go (size (mag c)) h
    where
      go : (z : ℕ) → mag c < 2 ^ z → suc (z - 1) ≡ z
      go zero h = absurd (omega (arith, p, h))
      go (suc z) h = omega arith

  power_under : 2 ^ places ≤ mag c
  power_under = size_reaches (mag c) places (let e = some_places in omega (arith, e))

  -- c is below twice that power
  under_twice : num c * units_in_one ≤ 2 ^ places * 2 * den c
  under_twice =
      let l : mag c < 2 ^ suc places = subst (λ (z : ℕ). mag c < 2 ^ z) (sym some_places) (size-lt (mag c)) in
      le_of_lt (subst (λ (z : ℕ). num c * units_in_one < z * den c) (pow-suc 2 places) (below c q (2 ^ suc places) l))
    where
      below : (x : Float) → T (positive x) → (z : ℕ) → mag x < z → num x * units_in_one < z * den x
      below nan t z h = absurd t
      below (inf s) t z h = absurd t
      below (fin s m e) t z h = (div-lt_iff_lt-mul (down_pos e)).0 h

  power_is : Is (round binary64 false (2 ^ places) units_in_one) false (2 ^ places)
  power_is = round_held false (2 ^ places) (1, places, lit< tt, omega arith) (lt_of_le_of_lt power_under top)

  crossed : (t u n d z : ℕ) → t * 2 ≤ u → n * u ≤ z * 2 * d → t * n * u ≤ z * (u * d)
  crossed t u n d z a b = omega (arith, mul-le-mul_left t b, mul-le-mul_right (z * d) a)

  pub tenth_le : T (tenth ⊗ c ≤? c)
  tenth_le =
      let power = round binary64 false (2 ^ places) units_in_one in
      le_through (tenth ⊗ c) power c
      (subst (λ (x : Float). T (x ≤? power)) (sym (mul_at binary64 tenth c (mag tenth) units_in_one (num c) (den c) (unfold of_bits in tt) q (pow_pos 1074) (den_pos c) tenth_is (own_value c q)))
      (round_mono binary64 (mag tenth * num c) (units_in_one * den c) (2 ^ places) units_in_one (mul-pos (pow_pos 1074) (den_pos c)) (pow_pos 1074)
      (crossed (mag tenth) units_in_one (num c) (den c) (2 ^ places) twice_tenth under_twice)))
      (mag→le power c (2 ^ places) power_is (positive-finite c q) (unsigned c q) power_under)

-- ---- half of x

module _ (x : Float) (f : T (fits binary64 x)) (h : T (finite x)) where
  halved : x ⊗ half ≡ round binary64 (neg? x) (mag x * 2 ^ 1073) (units_in_one * units_in_one)
  halved = mul_is x half (neg? x) false (mag x) (2 ^ 1073) (whole x f h) half_is ∙ ap (λ (s : Bool). round binary64 s (mag x * 2 ^ 1073) (units_in_one * units_in_one)) (unlike_false (neg? x))

  -- from 2 ^ 53 units on, 2 ^ -1021, halving is exact
  pub half_exact : 2 ^ 53 ≤ mag x → (k : ℕ) × (mag x ≡ k * 2) × Is (x ⊗ half) (neg? x) k
  half_exact big =
      let m = multiple (mag x) 1 (held x f h) big in
      let k = m.0 in
      let e : mag x ≡ k * 2 = m.1 in
      let q = ap (λ (y : ℕ). y * 2 ^ 1073) e ∙ mul_assoc k 2 (2 ^ 1073) in
      let top : k < 2 ^ 2098 = lt_of_le_of_lt (let y = e in omega arith) (below_top x (neg? x) (mag x) f (whole x f h)) in
      let r = round_product (neg? x) (mag x * 2 ^ 1073) k q (half_held (mag x) k (held x f h) big e) top in
      (k, e, subst (λ (y : Float). Is y (neg? x) k) (sym halved) r)
    where
      half_held : (a k : ℕ) → Held a → 2 ^ 53 ≤ a → a ≡ k * 2 → Held k
      half_held a k (p, zero, l, e) b q = absurd (let y = mul-one p in omega arith)
      half_held a k (p, suc j, l, e) b q = (p, j, l, let y = pow-suc 2 j in half_of a k (p * 2 ^ j) q (e ∙ ap (λ (n : ℕ). p * n) y ∙ sym (mul_assoc p (2 ^ j) 2)))
        where
          half_of : (a k n : ℕ) → a ≡ k * 2 → a ≡ n * 2 → k ≡ n
          half_of a k n u v = omega arith
