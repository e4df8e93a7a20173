-- What callers of the square root cite.
use Rattle.std.proofs.Common.{◌≡◌, ℕ, zero, suc, ◌+◌, ◌-◌, ◌*◌, ◌/◌, ◌^◌, ◌<◌, ◌≤◌, Bool, true, false, cond, T, ltb, ◌⊎◌, sym, refl, ap, ◌∙◌, subst, inl, inr, zero-le, le_trans, le_of_eq, lt_of_lt_of_le, le_of_suc-le-suc, lt_irrefl, mul-le-mul_right, zero-lt-suc, eq-zero-or-pos, mul-le-mul_left, mul-pos, lt_of_not-le, zero-mul, mul_right_comm, le_of_mul-le-mul_right, arith, pow_pos}
use Prim.Native.Nat.{compare}
use native.Mathlib.Nat.{zero-div}
use lib.Ieee.{Float, nan, inf, fin, binary64, up, down, size, nearest, odd, units, fits, le}
use lib.Ieee.Fits.{up_pos}
use lib.Ieee.Order.{le_of_values}
use lib.Ieee.Positive.{positive, positive_of_value, values_of_le, above, above_of_le}
use lib.Ieee.Scale.{finite, overflow}
use Rattle.number.specs.Units.{units_in_one, mag, neg?}
use Rattle.number.proofs.Values.{Is, whole}
use Rattle.sqrt.specs.Sqrt.{sqrt_of, round_root, floor_root}
use Rattle.sqrt.specs.Nearest.{Nearest}
use Rattle.sqrt.proofs.Pattern.{odd_finite}
use Rattle.sqrt.proofs.Shape.{shape, own, root_mag}
use Rattle.sqrt.proofs.Correct.{sqrt_correct}

-- ---- zeros are their own roots
pub zero_mag : (s : Bool) (e : lib.IntN.ℤ) → mag (fin s zero e) ≡ 0
zero_mag s e = ap (λ (k : ℕ). k * units_in_one / down e) (zero-mul (up e)) ∙ ap (λ (k : ℕ). k / down e) (zero-mul units_in_one) ∙ zero-div (down e)

pub zero_root : (x : Float) → T (fits binary64 x) → T (finite x) → mag x ≡ 0 → sqrt_of x ≡ x
unfolding sqrt_of
zero_root (fin s zero e) f h z = refl
zero_root (fin s (suc m) e) f h z =
    let none = (whole (fin s (suc m) e) f h).1 ∙ ap (λ (k : ℕ). k * down e) z ∙ zero-mul (down e) in
    absurd (lt_irrefl 0 (subst (λ (k : ℕ). 0 < k) none (mul-pos (mul-pos (zero-lt-suc m) (up_pos e)) (pow_pos 1074))))
zero_root nan f h z = elim h [ ]
zero_root (inf _) f h z = elim h [ ]

-- ---- a finite number that is not negative
module _ (x : Float) (f : T (fits binary64 x)) (h : T (finite x)) (n : neg? x ≡ false) where
  pub sqrt_finite : T (finite (sqrt_of x))
  sqrt_finite = go (eq-zero-or-pos (mag x))
    where
      go : (mag x ≡ 0) ⊎ (0 < mag x) → T (finite (sqrt_of x))
      go (inl z) = subst (λ (v : Float). T (finite v)) (sym (zero_root x f h z)) h
      go (inr A) = (sqrt_correct x f (h, n, A)).at_least.is_finite

  pub sqrt_sign : neg? (sqrt_of x) ≡ false
  sqrt_sign = go (eq-zero-or-pos (mag x))
    where
      go : (mag x ≡ 0) ⊎ (0 < mag x) → neg? (sqrt_of x) ≡ false
      go (inl z) = ap neg? (zero_root x f h z) ∙ n
      go (inr A) = (sqrt_correct x f (h, n, A)).at_least.sign

-- ---- the root of a binary64 number is one
pub sqrt_fits : (x : Float) → T (fits binary64 x) → T (fits binary64 (sqrt_of x))
sqrt_fits nan f = unfold sqrt_of fits in tt
sqrt_fits (inf true) f = unfold sqrt_of fits in tt
sqrt_fits (inf false) f = unfold sqrt_of fits in tt
sqrt_fits (fin s zero e) f = unfold sqrt_of in f
sqrt_fits (fin true (suc m) e) f = unfold sqrt_of fits in tt
sqrt_fits (fin false (suc m) e) f = go (fin false (suc m) e) f tt refl (eq-zero-or-pos (mag (fin false (suc m) e)))
  where
    go : (x : Float) → T (fits binary64 x) → T (finite x) → neg? x ≡ false → (mag x ≡ 0) ⊎ (0 < mag x) → T (fits binary64 (sqrt_of x))
    go x f h n (inl z) = subst (λ (v : Float). T (fits binary64 v)) (sym (zero_root x f h z)) f
    go x f h n (inr A) = (sqrt_correct x f (h, n, A)).at_least.held

-- ---- the error: one part in 2 ^ 53 of the root, either way. K is 2 ^ 53, and J is K - 1
over : (M g U K : ℕ) → K ≤ 2 * g → Nearest M g → M * (U * U) * (K * K) ≤ g * U * (g * U) * ((K + 1) * (K + 1))
over M g U K k h =
    le_trans (le_of_eq (mul_right_comm M (U * U) (K * K)))
    (le_trans (mul-le-mul_right (U * U) (le_trans (mul-le-mul_right (K * K) h.high) (digits g K (mul-le-mul_left (g * K) k)))) (le_of_eq (re g U ((K + 1) * (K + 1)))))
  where
    digits : (g K : ℕ) → g * K * K ≤ g * K * (2 * g) → (g * g + g) * (K * K) ≤ g * g * ((K + 1) * (K + 1))
    digits g K a = omega arith

    re : (g U c : ℕ) → g * g * c * (U * U) ≡ g * U * (g * U) * c
    re g U c = omega arith

under : (M g U J : ℕ) → J + 1 ≤ 2 * g → g ≤ J + 1 → Nearest M g → g * U * (g * U) * (J * J) ≤ M * (U * U) * ((J + 1) * (J + 1))
under M g U J k l h =
    le_trans (le_of_eq (re g U (J * J)))
    (le_trans (mul-le-mul_right (U * U) (digits M g J h.low (mul-le-mul_left (g * (J + 1)) k) (native.Mathlib.Nat.mul-le-mul l l))) (le_of_eq (mul_right_comm M ((J + 1) * (J + 1)) (U * U))))
  where
    re : (g U c : ℕ) → g * U * (g * U) * c ≡ g * g * c * (U * U)
    re g U c = omega arith

    digits : (M g J : ℕ) → g * g < M + g → g * (J + 1) * (J + 1) ≤ g * (J + 1) * (2 * g) → g * g ≤ (J + 1) * (J + 1) → g * g * (J * J) ≤ M * ((J + 1) * (J + 1))
    digits M g J a b c = omega (arith, mul-le-mul_right ((J + 1) * (J + 1)) a)

-- mag x * unit is the square of the exact root in units, g the root in units
pub record Rooted (x : Float) (g : ℕ) : Type 0 where
  pub over : mag x * units_in_one * (2 ^ 53 * 2 ^ 53) ≤ g * g * ((2 ^ 53 + 1) * (2 ^ 53 + 1))
  pub under : g * g * ((2 ^ 53 - 1) * (2 ^ 53 - 1)) ≤ mag x * units_in_one * (2 ^ 53 * 2 ^ 53)

pub sqrt_rooted : (x : Float) → T (fits binary64 x) → T (finite x) → neg? x ≡ false → Rooted x (mag (sqrt_of x))
sqrt_rooted x f h n = go (eq-zero-or-pos (mag x))
  where
    go : (mag x ≡ 0) ⊎ (0 < mag x) → Rooted x (mag (sqrt_of x))
    go (inl z) =
        subst (Rooted x) (sym (ap mag (zero_root x f h z) ∙ z))
        (record {
          over = le_of_eq (ap (λ (k : ℕ). k * units_in_one * (2 ^ 53 * 2 ^ 53)) z);
          under = le_trans (le_of_eq (zero-mul ((2 ^ 53 - 1) * (2 ^ 53 - 1)))) zero-le;
        })
    go (inr A) =
        let s = shape x f h n A in
        let k : 2 ^ 53 ≤ 2 * s.g = mul-le-mul_left 2 s.lo in
        let J = 2 ^ s.j in
        let r = s.g * J * (s.g * J) in
        subst (Rooted x) (sym (root_mag x s))
        (record {
          over = subst (λ (a : ℕ). a * (2 ^ 53 * 2 ^ 53) ≤ r * ((2 ^ 53 + 1) * (2 ^ 53 + 1))) (sym s.is) (over s.M s.g J (2 ^ 53) k s.near);
          under = subst (λ (a : ℕ). r * ((2 ^ 53 - 1) * (2 ^ 53 - 1)) ≤ a * (2 ^ 53 * 2 ^ 53)) (sym s.is) (under s.M s.g J (2 ^ 53 - 1) k s.hi s.near);
        })

-- ---- the order: a greater number has no smaller root
-- two numbers that are not negative are ordered as their units
pub le_mag : (x y : Float) → Is x false (mag x) → Is y false (mag y) → T (finite y) → T (le x y) → mag x ≤ mag y
le_mag x y p q h l = go (eq-zero-or-pos (mag x))
  where
    pos : (y : Float) → T (finite y) → T (above y) → T (positive y)
    pos nan h a = absurd h
    pos (inf s) h a = absurd h
    pos (fin true m e) h a = a
    pos (fin false m e) h a = a

    go : (mag x ≡ 0) ⊎ (0 < mag x) → mag x ≤ mag y
    go (inl z) = le_trans (le_of_eq z) zero-le
    go (inr A) =
        let k = positive_of_value x (mag x) units_in_one p A in
        let v = values_of_le x y (mag x) units_in_one (mag y) units_in_one k (pos y h (above_of_le x y k l)) p q l in
        le_of_mul-le-mul_right {k = units_in_one} v (pow_pos 1074)

module _ (x y : Float) (fx : T (fits binary64 x)) (fy : T (fits binary64 y)) (hx : T (finite x)) (hy : T (finite y)) (nx : neg? x ≡ false) (ny : neg? y ≡ false) where
  pub sqrt_mono_units : mag x ≤ mag y → mag (sqrt_of x) ≤ mag (sqrt_of y)
  sqrt_mono_units l = go (eq-zero-or-pos (mag x))
    where
      go : (mag x ≡ 0) ⊎ (0 < mag x) → mag (sqrt_of x) ≤ mag (sqrt_of y)
      go (inl z) = le_trans (le_of_eq (ap mag (zero_root x fx hx z) ∙ z)) zero-le
      go (inr A) = le_of_suc-le-suc (lt_of_not-le (λ (k : mag (sqrt_of y) < mag (sqrt_of x)).
          let B = lt_of_lt_of_le A l in
          let p = sqrt_correct x fx (hx, nx, A) in
          let q = sqrt_correct y fy (hy, ny, B) in
          let u = (p.farther (sqrt_of y) q.at_least).1 k in
          let v = (q.farther (sqrt_of x) p.at_least).0 k in
          wrong (mag x * units_in_one) (mag y * units_in_one) (mag (sqrt_of x)) (mag (sqrt_of y)) (mul-le-mul_right units_in_one l) u v))
        where
          wrong : (a b g h : ℕ) → a ≤ b → (g + h) * (g + h) < 4 * a → 4 * b < (h + g) * (h + g) → ⊥
          wrong a b g h l p q = omega arith

  pub sqrt_mono : T (le x y) → T (le (sqrt_of x) (sqrt_of y))
  sqrt_mono l = le_of_values (sqrt_of x) (sqrt_of y) (mag (sqrt_of x)) units_in_one (mag (sqrt_of y)) units_in_one (pow_pos 1074) (pow_pos 1074)
      (own (sqrt_of x) (sqrt_fits x fx) (sqrt_finite x fx hx nx) (sqrt_sign x fx hx nx)) (own (sqrt_of y) (sqrt_fits y fy) (sqrt_finite y fy hy ny) (sqrt_sign y fy hy ny))
      (mul-le-mul_right units_in_one (sqrt_mono_units (le_mag x y (own x fx hx nx) (own y fy hy ny) hy l)))

-- ---- a root that is at most a finite number is finite, and what it is the root of is finite, and not below 0
pub units_kind : (q k : ℕ) → T (finite (units binary64 false q k)) ⊎ (units binary64 false q k ≡ inf false)
unfolding units
units_kind q k = go (ltb (q * 2 ^ k) (overflow binary64))
  where
    go : (b : Bool) → T (finite (cond b (odd 54 false q k 1074) (inf false))) ⊎ (cond b (odd 54 false q k 1074) (inf false) ≡ inf false)
    go true = inl (odd_finite 54 false q k 1074)
    go false = inr refl

root_kind : (n : ℕ) → T (finite (round_root n)) ⊎ (round_root n ≡ inf false)
unfolding round_root
root_kind n =
    let w = floor_root n in
    let k = size w - 53 in
    let q = w / 2 ^ k in
    units_kind (nearest q (compare (4 * n) ((2 * q + 1) * (2 * q + 1) * (2 ^ k * 2 ^ k)))) k

not_inf : (y c : Float) → T (finite y) ⊎ (y ≡ inf false) → T (finite c) → T (le y c) → T (finite y)
not_inf y c (inl h) f l = h
not_inf y c (inr e) f l = absurd (no c f (subst (λ (v : Float). T (le v c)) e l))
  where
    no : (c : Float) → T (finite c) → T (le (inf false) c) → ⊥
    no nan f l = f
    no (inf s) f l = f
    no (fin t n d) f l = unfold le in l

pub record UnderRoot (x : Float) : Type 0 where
  pub finite_x : T (finite x)
  pub finite_root : T (finite (sqrt_of x))
  pub not_below : (neg? x ≡ false) ⊎ (mag x ≡ 0)

pub sqrt_le_finite : (x c : Float) → T (finite c) → T (le (sqrt_of x) c) → UnderRoot x
unfolding sqrt_of
sqrt_le_finite nan c f h = unfold le in absurd h
sqrt_le_finite (inf true) c f h = unfold le in absurd h
sqrt_le_finite (inf false) c f h = absurd (not_inf (inf false) c (inr refl) f h)
sqrt_le_finite (fin s zero e) c f h = record { finite_x = tt; finite_root = tt; not_below = inr (zero_mag s e) }
sqrt_le_finite (fin true (suc m) e) c f h = unfold le in absurd h
sqrt_le_finite (fin false (suc m) e) c f h =
    let n = mag (fin false (suc m) e) * units_in_one in
    record { finite_x = tt; finite_root = not_inf (round_root n) c (root_kind n) f h; not_below = inl refl }
