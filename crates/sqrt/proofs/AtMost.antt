-- Whether a root is at most c, told by squares that are clearly apart: twice the square of c is below the number, or twice the number is at most the square.
use Rattle.std.proofs.Common.{◌≡◌, ℕ, ◌+◌, ◌-◌, ◌*◌, ◌/◌, ◌%◌, ◌^◌, ◌<◌, ◌≤◌, Bool, true, false, T, ◌⊎◌, sym, refl, ap, ◌∙◌, subst, inl, inr, zero-le, le_trans, le_of_eq, le_refl, lt_of_lt_of_le, le_of_suc-le-suc, le-add_right, add-le-add, mul-le-mul_right, mul-le-mul, mul-pos, lt_of_not-le, mul-one, mul-add, not-le_of_lt, le_of_mul-le-mul_right, arith, lit<, lit≤, pow_pos}
use Prim.Native.Nat.{compare}
use native.Mathlib.Nat.{le_of_mul-le-mul_left}
use lib.Ieee.{Float, nan, inf, fin, binary64, size, nearest, unlike, round, sum, add, mul, lt, le, of_bits, fits}
use lib.Ieee.Bits.{is_true}
use lib.Ieee.Scale.{grid, finite}
use Rattle.number.specs.Operators.{bits, ◌⊕◌, ◌⊗◌, ◌<?◌, ◌≤?◌}
use Rattle.number.specs.Units.{units_in_one, mag, neg?}
use Rattle.number.proofs.Values.{Is, is_own_lem, whole, round_is_grid, add_is, mul_is}
use Rattle.number.proofs.Rounding.{error, whole_over}
use Rattle.number.proofs.Finite.{mul_finite}
use Rattle.number.proofs.Order.{le→units, units→le, lt→le}
use Rattle.sqrt.specs.Sqrt.{sqrt_of}
use Rattle.sqrt.proofs.Laws.{units_kind, zero_root, sqrt_finite, sqrt_sign, sqrt_fits, sqrt_rooted, sqrt_le_finite}

-- ---- computed squares and sums of numbers that are not negative

-- a computed square is not negative, and the exact one is not far from it
pub record Squared (x : Float) : Type 0 where
  pub is : Is (x ⊗ x) false (mag (x ⊗ x))
  pub over : mag x * mag x * (2 ^ 53 - 1) ≤ mag (x ⊗ x) * units_in_one * 2 ^ 53 + units_in_one * 2 ^ 52
  pub under : mag (x ⊗ x) * units_in_one * 2 ^ 53 ≤ mag x * mag x * (2 ^ 53 + 1) + units_in_one * 2 ^ 52

unlike_self : (s : Bool) → unlike s s ≡ false
unlike_self true = refl
unlike_self false = refl

square_is : (x : Float) → T (fits binary64 x) → T (finite x) → x ⊗ x ≡ round binary64 false (mag x * mag x) (units_in_one * units_in_one)
square_is x f h =
    let v = whole x f h in
    mul_is x x (neg? x) (neg? x) (mag x) (mag x) v v ∙ ap (λ (s : Bool). round binary64 s (mag x * mag x) (units_in_one * units_in_one)) (unlike_self (neg? x))

pub squared : (x : Float) → T (fits binary64 x) → T (finite (x ⊗ x)) → Squared x
squared x f h =
    let e = square_is x f (mul_finite x x h).0 in
    let i = round_is_grid false (mag x * mag x) (units_in_one * units_in_one) (subst (λ (y : Float). T (finite y)) e h) in
    let g = grid binary64 (mag x * mag x) (units_in_one * units_in_one) in
    let m : mag (x ⊗ x) ≡ g = ap mag e ∙ (is_own_lem (round binary64 false (mag x * mag x) (units_in_one * units_in_one)) false g i).1 in
    let w = error (mag x * mag x * units_in_one) (units_in_one * units_in_one) (mul-pos (pow_pos 1074) (pow_pos 1074)) in
    record {
      is = subst (λ (k : ℕ). Is (x ⊗ x) false k) (sym m) (subst (λ (y : Float). Is y false g) (sym e) i);
      over = subst (λ (k : ℕ). mag x * mag x * (2 ^ 53 - 1) ≤ k * units_in_one * 2 ^ 53 + units_in_one * 2 ^ 52) (sym m) (less (mag x * mag x) g units_in_one (pow_pos 1074) w.1);
      under = subst (λ (k : ℕ). k * units_in_one * 2 ^ 53 ≤ mag x * mag x * (2 ^ 53 + 1) + units_in_one * 2 ^ 52) (sym m) (more (mag x * mag x) g units_in_one (pow_pos 1074) w.0);
    }
  where
    less : (d g l : ℕ) → 0 < l → d * l * 2 ^ 53 ≤ g * (l * l) * 2 ^ 53 + (d * l + l * l * 2 ^ 52) → d * (2 ^ 53 - 1) ≤ g * l * 2 ^ 53 + l * 2 ^ 52
    less d g l L h = le_of_mul-le-mul_right {k = l} (omega arith) L

    more : (d g l : ℕ) → 0 < l → g * (l * l) * 2 ^ 53 ≤ d * l * 2 ^ 53 + (d * l + l * l * 2 ^ 52) → g * l * 2 ^ 53 ≤ d * (2 ^ 53 + 1) + l * 2 ^ 52
    more d g l L h = le_of_mul-le-mul_right {k = l} (omega arith) L

-- a computed sum of two that are not negative
pub sum_over : (x y : Float) (a b : ℕ) → Is x false a → Is y false b → T (finite (x ⊕ y))
    → (Is (x ⊕ y) false (mag (x ⊕ y))) × ((a + b) * (2 ^ 53 - 1) ≤ mag (x ⊕ y) * 2 ^ 53)
unfolding sum
sum_over x y a b p q h =
    let e : x ⊕ y ≡ round binary64 false (a + b) units_in_one = add_is x y false false a b p q in
    let i = round_is_grid false (a + b) units_in_one (subst (λ (v : Float). T (finite v)) e h) in
    let g = grid binary64 (a + b) units_in_one in
    let m : mag (x ⊕ y) ≡ g = ap mag e ∙ (is_own_lem (round binary64 false (a + b) units_in_one) false g i).1 in (
      subst (λ (k : ℕ). Is (x ⊕ y) false k) (sym m) (subst (λ (v : Float). Is v false g) (sym e) i),
      subst (λ (k : ℕ). (a + b) * (2 ^ 53 - 1) ≤ k * 2 ^ 53) (sym m) (whole_over (a + b) units_in_one (pow_pos 1074)),
    )

-- ---- what is not negative is finite, or infinite above

round_kind : (num den : ℕ) → T (finite (round binary64 false num den)) ⊎ (round binary64 false num den ≡ inf false)
unfolding round
round_kind num den =
    let n = num * 2 ^ 1074 in
    let k = size (n / den) - 53 in
    let u = den * 2 ^ k in
    units_kind (nearest (n / u) (compare (n % u * 2) u)) k

square_kind : (x : Float) → T (fits binary64 x) → T (finite x) → T (finite (x ⊗ x)) ⊎ (x ⊗ x ≡ inf false)
square_kind x f h =
    subst (λ (y : Float). T (finite y) ⊎ (y ≡ inf false)) (sym (square_is x f h)) (round_kind (mag x * mag x) (units_in_one * units_in_one))

double_kind : (x : Float) (a : ℕ) → Is x false a → T (finite (x ⊕ x)) ⊎ (x ⊕ x ≡ inf false)
unfolding sum
double_kind x a v =
    let e : x ⊕ x ≡ round binary64 false (a + a) units_in_one = add_is x x false false a a v v in
    subst (λ (y : Float). T (finite y) ⊎ (y ≡ inf false)) (sym e) (round_kind (a + a) units_in_one)

inf_not_le : (y : Float) → T (finite y) → T (inf false ≤? y) → ⊥
inf_not_le nan f l = f
inf_not_le (inf s) f l = f
inf_not_le (fin t n d) f l = unfold le in l

inf_not_lt : (y : Float) → T (inf false <? y) → ⊥
inf_not_lt nan l = unfold lt in l
inf_not_lt (inf true) l = unfold lt in l
inf_not_lt (inf false) l = unfold lt in l
inf_not_lt (fin t n d) l = unfold lt in l

double_inf : inf false ⊕ inf false ≡ inf false
double_inf = unfold add in refl

-- ---- c from 2 ^ -100 on

abbrev pub least : Float
least = bits 0x39b0_0000_0000_0000

least_is : Is least false (2 ^ 974)
unfolding of_bits
least_is = (refl, refl)

-- a finite c from there on
large : (c : Float) → T (fits binary64 c) → T (finite c) → T (least ≤? c) → Is c false (mag c) × (2 ^ 974 ≤ mag c)
large c f h low = go (neg? c) (whole c f h)
  where
    go : (t : Bool) → Is c t (mag c) → Is c false (mag c) × (2 ^ 974 ≤ mag c)
    go false v = (v, le→units least c false false (2 ^ 974) (mag c) least_is v low)
    go true v = absurd (not-le_of_lt (pow_pos 974) (le_trans (le-add_right (2 ^ 974) (mag c)) (le_of_eq (le→units least c false true (2 ^ 974) (mag c) least_is v low))))

-- ---- the arithmetic: S the number, G its root, C that it is compared with, Q the computed square of C, D the computed double; K is 2 ^ 53, J is K - 1

abbrev K : ℕ
K = 2 ^ 53

abbrev J : ℕ
J = 2 ^ 53 - 1

abbrev H : ℕ
H = 2 ^ 52

far_chain : (S C Q D L K J H : ℕ) → S * L * (K * K) ≤ C * C * ((K + 1) * (K + 1)) → C * C * J ≤ Q * L * K + L * H → (Q + Q) * J ≤ D * K → D ≤ S
    → C * C * (2 * (J * J)) ≤ C * C * ((K + 1) * (K + 1)) + L * H * (2 * J)
far_chain S C Q D L K J H a b c d = omega (arith, mul-le-mul_right (2 * J) b, mul-le-mul_right (L * K) c, mul-le-mul_right (L * (K * K)) d)

near_chain : (S G C Q D L K J H : ℕ) → G * G * (J * J) ≤ S * L * (K * K) → Q * L * K ≤ C * C * (K + 1) + L * H → (S + S) * J ≤ D * K → D ≤ Q
    → G * G * (2 * (J * J * J)) ≤ C * C * ((K + 1) * (K * K)) + L * H * (K * K)
near_chain S G C Q D L K J H a b c d = omega (arith, mul-le-mul_right (2 * J) a, mul-le-mul_right (L * (K * K)) c, mul-le-mul_right (L * (K * (K * K))) d, mul-le-mul_right (K * K) b)

module _ (C : ℕ) (big : 2 ^ 974 ≤ C) where
  most : (n : ℕ) → n ≤ 2 ^ 1948 → n ≤ C * C * 1
  most n h = le_trans h (le_trans (lit≤ {m = 2 ^ 1948} {n = 2 ^ 974 * 2 ^ 974} tt) (le_trans (mul-le-mul big big) (le_of_eq (sym (mul-one (C * C))))))

  together : (X m n : ℕ) → X ≤ C * C * m + n → n ≤ 2 ^ 1948 → X ≤ C * C * (m + 1)
  together X m n h l = le_trans h (le_trans (add-le-add (le_refl (C * C * m)) (most n l)) (le_of_eq (sym (mul-add (C * C) m 1))))

  pub far_not : C * C * (2 * (J * J)) ≤ C * C * ((K + 1) * (K + 1)) + units_in_one * H * (2 * J) → ⊥
  far_not h =
      let square : 0 < C * C = mul-pos (lt_of_lt_of_le (pow_pos 974) big) (lt_of_lt_of_le (pow_pos 974) big) in
      let l = together (C * C * (2 * (J * J))) ((K + 1) * (K + 1)) (units_in_one * H * (2 * J)) h (lit≤ tt) in
      not-le_of_lt (lit< {m = (K + 1) * (K + 1) + 1} {n = 2 * (J * J)} tt) (le_of_mul-le-mul_left {k = C * C} l square)

  pub near_at_most : (G : ℕ) → G * G * (2 * (J * J * J)) ≤ C * C * ((K + 1) * (K * K)) + units_in_one * H * (K * K) → G ≤ C
  near_at_most G h =
      let l = together (G * G * (2 * (J * J * J))) ((K + 1) * (K * K)) (units_in_one * H * (K * K)) h (lit≤ tt) in
      let m : G * G * (2 * (J * J * J)) ≤ C * C * (2 * (J * J * J)) = le_trans l (native.Mathlib.Nat.mul-le-mul_left (C * C) (lit≤ {m = (K + 1) * (K * K) + 1} {n = 2 * (J * J * J)} tt)) in
      let s : G * G ≤ C * C = le_of_mul-le-mul_right {k = 2 * (J * J * J)} m (lit< tt) in
      le_of_suc-le-suc (lt_of_not-le (λ (k : C < G). higher G C k s))
    where
      higher : (G C : ℕ) → C < G → G * G ≤ C * C → ⊥
      higher G C k s = omega (arith, mul-le-mul k k)

-- ---- the two tests

module _ (s c : Float) (fs : T (fits binary64 s)) (fc : T (fits binary64 c)) (low : T (least ≤? c)) where
  abbrev q : Float
  q = c ⊗ c

  -- twice the square of c is below s
  module _ (l : T (q ⊕ q <? s)) where
    finite_square : T (finite c) → T (finite q)
    finite_square h = go (square_kind c fc h)
      where
        go : T (finite q) ⊎ (q ≡ inf false) → T (finite q)
        go (inl f) = f
        go (inr e) = absurd (inf_not_lt s (subst (λ (y : Float). T (y <? s)) (ap (λ (x : Float). x ⊕ x) e ∙ double_inf) l))

    finite_double : T (finite q) → T (finite (q ⊕ q))
    finite_double h = go (double_kind q (mag q) (squared c fc h).is)
      where
        go : T (finite (q ⊕ q)) ⊎ (q ⊕ q ≡ inf false) → T (finite (q ⊕ q))
        go (inl f) = f
        go (inr e) = absurd (inf_not_lt s (subst (λ (y : Float). T (y <? s)) e l))

    -- s is at most what its root, at most c, can be the root of
    bounded : T (finite c) → Is c false (mag c) → T (sqrt_of s ≤? c) → (neg? s ≡ false) ⊎ (mag s ≡ 0) → T (finite s) → T (finite (sqrt_of s))
        → mag s * units_in_one * (2 ^ 53 * 2 ^ 53) ≤ mag c * mag c * ((2 ^ 53 + 1) * (2 ^ 53 + 1))
    bounded hc v m (inl n) hs hr =
        let vg : Is (sqrt_of s) false (mag (sqrt_of s)) = subst (λ (t : Bool). Is (sqrt_of s) t (mag (sqrt_of s))) (sqrt_sign s fs hs n) (whole (sqrt_of s) (sqrt_fits s fs) hr) in
        let g = le→units (sqrt_of s) c false false (mag (sqrt_of s)) (mag c) vg v m in
        le_trans (sqrt_rooted s fs hs n).over (mul-le-mul_right ((2 ^ 53 + 1) * (2 ^ 53 + 1)) (mul-le-mul g g))
    bounded hc v m (inr z) hs hr = le_trans (le_of_eq (ap (λ (k : ℕ). k * units_in_one * (2 ^ 53 * 2 ^ 53)) z ∙ zero_times)) zero-le
      where
        zero_times : 0 * units_in_one * (2 ^ 53 * 2 ^ 53) ≡ 0
        zero_times = refl

    double_below : T (finite s) → Is (q ⊕ q) false (mag (q ⊕ q)) → mag (q ⊕ q) ≤ mag s
    double_below hs v = go (neg? s) (whole s fs hs)
      where
        go : (t : Bool) → Is s t (mag s) → mag (q ⊕ q) ≤ mag s
        go false w = le→units (q ⊕ q) s false false (mag (q ⊕ q)) (mag s) v w (lt→le (q ⊕ q) s l)
        go true w = zero (mag (q ⊕ q)) (mag s) (le→units (q ⊕ q) s false true (mag (q ⊕ q)) (mag s) v w (lt→le (q ⊕ q) s l))
          where
            zero : (a b : ℕ) → a + b ≡ 0 → a ≤ b
            zero a b e = omega arith

    not_at_most : T (finite c) → T (sqrt_of s ≤? c) → ⊥
    not_at_most hc m =
        let u = sqrt_le_finite s c hc m in
        let b = large c fc hc low in
        let hq = finite_square hc in
        let p = squared c fc hq in
        let d = sum_over q q (mag q) (mag q) p.is p.is (finite_double hq) in
        far_not (mag c) b.1
        (far_chain (mag s) (mag c) (mag q) (mag (q ⊕ q)) units_in_one (2 ^ 53) (2 ^ 53 - 1) (2 ^ 52)
        (bounded hc b.0 m u.not_below u.finite_x u.finite_root) p.over d.1 (double_below u.finite_x d.0))

  -- and so the root is not at most c
  pub far : T (q ⊕ q <? s) → (sqrt_of s ≤? c) ≡ false
  far l = no (sqrt_of s ≤? c) (λ m. not_at_most l (go c low l) m)
    where
      go : (c : Float) → T (least ≤? c) → T (c ⊗ c ⊕ c ⊗ c <? s) → T (finite c)
      go nan a b = unfold of_bits le in absurd a
      go (inf true) a b = unfold of_bits le in absurd a
      go (inf false) a b = absurd (inf_not_lt s (unfold mul add in b))
      go (fin t m e) a b = tt

      no : (b : Bool) → (T b → ⊥) → b ≡ false
      no true h = absurd (h tt)
      no false h = refl

  -- twice s, which is not negative, is at most the square of c
  module _ (up : T (bits 0 ≤? s)) (hq : T (finite q)) (l : T (s ⊕ s ≤? q)) where
    finite_s : T (finite s)
    finite_s = go s up l
      where
        go : (s : Float) → T (bits 0 ≤? s) → T (s ⊕ s ≤? q) → T (finite s)
        go nan a b = unfold of_bits le in absurd a
        go (inf true) a b = unfold of_bits le in absurd a
        go (inf false) a b = absurd (inf_not_le q hq (unfold add in b))
        go (fin t m e) a b = tt

    zero_is : Is (bits 0) false 0
    unfolding of_bits
    zero_is = (refl, refl)

    plain : (a : ℕ) → 0 + a ≡ 0 → a ≡ 0
    plain a e = omega arith

    -- s is above 0, or a zero
    at_most : (t : Bool) → Is s t (mag s) → neg? s ≡ t → T (sqrt_of s ≤? c)
    at_most true v n =
        let z = plain (mag s) (le→units (bits 0) s false true 0 (mag s) zero_is v up) in
        let b = large c fc (mul_finite c c hq).0 low in
        subst (λ (y : Float). T (y ≤? c)) (sym (zero_root s fs finite_s z)) (units→le s c true false (mag s) (mag c) v b.0 tt)
    at_most false v n =
        let b = large c fc (mul_finite c c hq).0 low in
        let p = squared c fc hq in
        let hd = finite_double in
        let d = sum_over s s (mag s) (mag s) v v hd in
        let r = sqrt_of s in
        let v' = whole r (sqrt_fits s fs) (sqrt_finite s fs finite_s n) in
        let vr : Is r false (mag r) = subst (λ (t : Bool). Is r t (mag r)) (sqrt_sign s fs finite_s n) v' in
        units→le r c false false (mag r) (mag c) vr b.0
        (near_at_most (mag c) b.1 (mag r)
        (near_chain (mag s) (mag r) (mag c) (mag q) (mag (s ⊕ s)) units_in_one (2 ^ 53) (2 ^ 53 - 1) (2 ^ 52)
        (sqrt_rooted s fs finite_s n).under p.under d.1 (le→units (s ⊕ s) q false false (mag (s ⊕ s)) (mag q) d.0 p.is l)))
      where
        finite_double : T (finite (s ⊕ s))
        finite_double = go (double_kind s (mag s) v)
          where
            go : T (finite (s ⊕ s)) ⊎ (s ⊕ s ≡ inf false) → T (finite (s ⊕ s))
            go (inl f) = f
            go (inr e) = absurd (inf_not_le q hq (subst (λ (y : Float). T (y ≤? q)) e l))

  -- and so the root is at most c; that the square is at most 1 keeps it finite
  pub near : T (bits 0 ≤? s) → T (q ≤? bits 0x3ff0_0000_0000_0000) → T (s ⊕ s ≤? q) → (sqrt_of s ≤? c) ≡ true
  near up one l =
      let hq = go c fc low one in
      is_true (sqrt_of s ≤? c) (at_most up hq l (neg? s) (whole s fs (finite_s up hq l)) refl)
    where
      one_finite : T (finite (bits 0x3ff0_0000_0000_0000))
      one_finite = unfold of_bits in tt

      kept : (x : Float) → T (x ≤? bits 0x3ff0_0000_0000_0000) → T (finite x) ⊎ (x ≡ inf false) → T (finite x)
      kept x b (inl f) = f
      kept x b (inr e) = absurd (inf_not_le (bits 0x3ff0_0000_0000_0000) one_finite (subst (λ (y : Float). T (y ≤? bits 0x3ff0_0000_0000_0000)) e b))

      go : (c : Float) → T (fits binary64 c) → T (least ≤? c) → T (c ⊗ c ≤? bits 0x3ff0_0000_0000_0000) → T (finite (c ⊗ c))
      go nan f a b = unfold of_bits le in absurd a
      go (inf true) f a b = unfold of_bits le in absurd a
      go (inf false) f a b = kept (inf false ⊗ inf false) b (inr (unfold mul in refl))
      go (fin t m e) f a b = kept (fin t m e ⊗ fin t m e) b (square_kind (fin t m e) f tt)
