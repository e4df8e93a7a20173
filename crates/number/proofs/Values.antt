-- A finite binary64 as a whole number of units, 2 ^ -1074: `mag` with the sign `neg?`. The operations in those numbers.
use mathlib.Core.Path.{◌≡◌, refl, sym, ap, ◌∙◌, subst}
use Prim.Native.Nat.{ℕ, zero, suc, ◌+◌, ◌-◌, ◌*◌, ◌/◌, ◌%◌, ◌^◌, ◌≤◌, ◌<◌}
use native.Mathlib.Nat.{le_of_eq, mul_comm, mul_assoc, mul_right_comm, mul-pos, mul-div_cancel, add-mul, mul-sub}
use native.Mathlib.Nat.{mul-lt-mul_of_pos_right, lt_of_mul-lt-mul_right, mul-mul-mul_comm, lt_of_le_of_lt, lt_of_lt_of_le, lt_irrefl, zero-mul, zero-lt-suc}
use native.Mathlib.Omega.{arith}
use mathlib.Core.Bool.{Bool, true, false, not, ◌&&◌, beq, cond}
use lib.Dec.{T, leb, ltb, eqb, ltb→lt, lt→ltb, nltb→le}
use lib.Pow.{pow_pos}
use lib.Ieee.{Float, nan, inf, fin, binary64, unlike, up, down, odd, round, neg, sum, add, sub, mul, of_fields, of_bits, to_bits, fits, is_nan}
use lib.Ieee.Fits.{and_r, down_pos}
use lib.Ieee.Bits.{of_bits-to_bits}
use lib.Ieee.Exact.{HasValue, odd_sign}
use lib.Ieee.Scale.{round_same, round_val, round_under, grid, finite}
use Rattle.number.specs.Units.{units_in_one, mag, neg?}
use Rattle.number.proofs.Finite.{neg_finite}
use Rattle.number.proofs.Symmetry.{round_neg}

-- x is ±a units
abbrev pub Is : Float → Bool → ℕ → Type 0
Is x s a = HasValue x s a units_in_one

pub is_own_lem : (x : Float) (s : Bool) (a : ℕ) → Is x s a → (neg? x ≡ s) × (mag x ≡ a)
is_own_lem nan s a h = absurd h
is_own_lem (inf t) s a h = absurd h
is_own_lem (fin t m e) s a h = (h.0, ap (λ (n : ℕ). n / down e) h.1 ∙ mul-div_cancel a (down_pos e))

pub is_number : (x : Float) (s : Bool) (a : ℕ) → Is x s a → T (not (is_nan x))
unfolding is_nan
is_number nan s a h = absurd h
is_number (inf t) s a h = tt
is_number (fin t m e) s a h = tt

own_is : (x : Float) (s : Bool) (a : ℕ) → Is x s a → Is x (neg? x) (mag x)
own_is x s a h =
    let o = is_own_lem x s a h in
    subst (λ (t : Bool). Is x t (mag x)) (sym o.0) (subst (λ (n : ℕ). Is x s n) (sym o.1) h)

-- ---- every finite value that fits is a whole number of units: p * 2 ^ j, with a p below 2 ^ 53
abbrev pub Held : ℕ → Type 0
Held c = (p : ℕ) × (j : ℕ) × (p < 2 ^ 53) × (c ≡ p * 2 ^ j)

fields : (s : Bool) (x t : ℕ) → t < 2 ^ 52 → T (finite (of_fields binary64 s x t)) → (c : ℕ) × (Is (of_fields binary64 s x t) s c) × Held c
unfolding of_fields
fields s zero t l h = (t * 2 ^ 0, odd_sign 53 s t 0 1074, (t, 0, omega arith, refl))
fields s (suc x) t l h = go (eqb (suc x) 2047) (eqb t 0) h
  where
    go : (b d : Bool) → T (finite (cond b (cond d (inf s) nan) (odd 53 s (2 ^ 52 + t) x 1074))) → (c : ℕ) × (Is (cond b (cond d (inf s) nan) (odd 53 s (2 ^ 52 + t) x 1074)) s c) × Held c
    go true true h = absurd h
    go true false h = absurd h
    go false d h = ((2 ^ 52 + t) * 2 ^ x, odd_sign 53 s (2 ^ 52 + t) x 1074, (2 ^ 52 + t, x, omega arith, refl))

-- the number of a pattern, by its three fields
pub bits_is : (b : ℕ) → of_bits binary64 b ≡ of_fields binary64 (leb (2 ^ 63) b) (b % 2 ^ 63 / 2 ^ 52) (b % 2 ^ 52)
unfolding of_bits
bits_is b = refl

own : (x : Float) → T (fits binary64 x) → T (finite x) → (Is x (neg? x) (mag x)) × Held (mag x)
own x f h =
    let b = to_bits binary64 x in
    let s = leb (2 ^ 63) b in
    let e : of_fields binary64 s (b % 2 ^ 63 / 2 ^ 52) (b % 2 ^ 52) ≡ x = sym (bits_is b) ∙ of_bits-to_bits binary64 x f in
    let v = fields s (b % 2 ^ 63 / 2 ^ 52) (b % 2 ^ 52) (omega arith) (subst (λ (y : Float). T (finite y)) (sym e) h) in
    let i : Is x s v.0 = subst (λ (y : Float). Is y s v.0) e v.1 in
    (own_is x s v.0 i, subst Held (sym (is_own_lem x s v.0 i).1) v.2)

pub whole : (x : Float) → T (fits binary64 x) → T (finite x) → Is x (neg? x) (mag x)
whole x f h = (own x f h).0

pub held : (x : Float) → T (fits binary64 x) → T (finite x) → Held (mag x)
held x f h = (own x f h).1

-- ---- `round` of a / unit, or of any fraction
value_neg : (x : Float) (s : Bool) (a c : ℕ) → HasValue x s a c → HasValue (neg x) (not s) a c
unfolding neg
value_neg nan s a c h = absurd h
value_neg (inf t) s a c h = absurd h
value_neg (fin t m e) s a c h = (ap not h.0, h.1)

pub round_is_grid : (s : Bool) (a c : ℕ) → T (finite (round binary64 s a c)) → Is (round binary64 s a c) s (grid binary64 a c)
round_is_grid false a c h = round_val binary64 a c (round_under binary64 a c h)
round_is_grid true a c h =
    let x = round binary64 false a c in
    let k = neg_finite x (rw (round_neg false a c) at h) in
    rw (round_neg false a c) (value_neg x false (grid binary64 a c) units_in_one (round_val binary64 a c (round_under binary64 a c k)))

-- ---- sums
cross : (x u d e a l : ℕ) → x * u * l ≡ a * e → x * u * d * l ≡ a * (e * d)
cross x u d e a l h = mul_right_comm (x * u) d l ∙ ap (λ (k : ℕ). k * d) h ∙ mul_assoc a e d

-- tests that hold together are the same
pub both_ways : (p q : Bool) → (T p → T q) → (T q → T p) → p ≡ q
both_ways true true m n = refl
both_ways true false m n = absurd (m tt)
both_ways false true m n = absurd (n tt)
both_ways false false m n = refl

ltb_same : (a b x y : ℕ) → (x < y → a < b) → (a < b → x < y) → ltb a b ≡ ltb x y
ltb_same a b x y f g = both_ways (ltb a b) (ltb x y) (λ t. lt→ltb x y (g (ltb→lt a b t))) (λ t. lt→ltb a b (f (ltb→lt x y t)))

module _ (A B C a b l : ℕ) (cp : 0 < C) (lp : 0 < l) (p : A * l ≡ a * C) (q : B * l ≡ b * C) where
  order : ltb A B ≡ ltb a b
  order = ltb_same A B a b
      (λ h. lt_of_mul-lt-mul_right l (subst (λ (x : ℕ). x < B * l) (sym p) (subst (λ (x : ℕ). a * C < x) (sym q) (mul-lt-mul_of_pos_right h cp))))
      (λ h. lt_of_mul-lt-mul_right C (subst (λ (x : ℕ). x < b * C) p (subst (λ (x : ℕ). A * l < x) q (mul-lt-mul_of_pos_right h lp))))

  minus_cross : (A - B) * l ≡ (a - b) * C
  minus_cross =
      let s = mul_comm l A ∙ p ∙ mul_comm a C in
      let t = mul_comm l B ∙ q ∙ mul_comm b C in
      mul_comm (A - B) l ∙ mul-sub l A B ∙ ap (λ (x : ℕ). x - l * B) s ∙ ap (λ (x : ℕ). C * a - x) t ∙ sym (mul-sub C a b) ∙ mul_comm C (a - b)

-- ±a units and ±b units: `sum` sees only the values
pub sum_same : (s t : Bool) (A B C a b l : ℕ) → 0 < C → 0 < l → A * l ≡ a * C → B * l ≡ b * C → sum binary64 s A t B C ≡ sum binary64 s a t b l
unfolding sum
sum_same s t A B C a b l cp lp p q = go (beq s t)
  where
    plus : (A + B) * l ≡ (a + b) * C
    plus = add-mul A B l ∙ ap (λ (x : ℕ). x + B * l) p ∙ ap (λ (x : ℕ). a * C + x) q ∙ sym (add-mul a b C)

    go : (k : Bool) → cond k (round binary64 s (A + B) C) (cond (ltb A B) (round binary64 t (B - A) C) (round binary64 (s && ltb B A) (A - B) C))
        ≡ cond k (round binary64 s (a + b) l) (cond (ltb a b) (round binary64 t (b - a) l) (round binary64 (s && ltb b a) (a - b) l))
    go true = round_same binary64 s (A + B) C (a + b) l cp lp plus
    go false =
        ap (λ (v : Bool). cond v (round binary64 t (B - A) C) (round binary64 (s && ltb B A) (A - B) C)) (order A B C a b l cp lp p q)
        ∙ ap (λ (v : Float). cond (ltb a b) v (round binary64 (s && ltb B A) (A - B) C)) (round_same binary64 t (B - A) C (b - a) l cp lp (minus_cross B A C b a l cp lp q p))
        ∙ ap (λ (v : Bool). cond (ltb a b) (round binary64 t (b - a) l) (round binary64 (s && v) (A - B) C)) (order B A C b a l cp lp q p)
        ∙ ap (λ (v : Float). cond (ltb a b) (round binary64 t (b - a) l) v) (round_same binary64 (s && ltb b a) (A - B) C (a - b) l cp lp (minus_cross A B C a b l cp lp p q))

pub add_is : (x y : Float) (s t : Bool) (a b : ℕ) → Is x s a → Is y t b → add binary64 x y ≡ sum binary64 s a t b units_in_one
unfolding add
add_is nan y s t a b p q = absurd p
add_is (inf u) y s t a b p q = absurd p
add_is (fin u m e) nan s t a b p q = absurd q
add_is (fin u m e) (inf v) s t a b p q = absurd q
add_is (fin u m e) (fin v n d) s t a b p q =
    ap (λ (k : Bool). sum binary64 k (m * up e * down d) v (n * up d * down e) (down e * down d)) p.0
    ∙ ap (λ (k : Bool). sum binary64 s (m * up e * down d) k (n * up d * down e) (down e * down d)) q.0
    ∙ sum_same s t (m * up e * down d) (n * up d * down e) (down e * down d) a b units_in_one (mul-pos (down_pos e) (down_pos d)) (pow_pos 1074)
    (cross m (up e) (down d) (down e) a units_in_one p.1)
    (cross n (up d) (down e) (down d) b units_in_one q.1 ∙ ap (λ (k : ℕ). b * k) (mul_comm (down d) (down e)))

pub neg_is : (x : Float) (s : Bool) (a : ℕ) → Is x s a → Is (neg x) (not s) a
neg_is x s a p = value_neg x s a units_in_one p

pub sub_is : (x y : Float) (s t : Bool) (a b : ℕ) → Is x s a → Is y t b → sub binary64 x y ≡ sum binary64 s a (not t) b units_in_one
unfolding sub
sub_is x y s t a b p q = add_is x (neg y) s (not t) a b p (neg_is y t b q)

pub mul_is : (x y : Float) (s t : Bool) (a b : ℕ) → Is x s a → Is y t b → mul binary64 x y ≡ round binary64 (unlike s t) (a * b) (units_in_one * units_in_one)
unfolding mul
mul_is nan y s t a b p q = absurd p
mul_is (inf u) y s t a b p q = absurd p
mul_is (fin u m e) nan s t a b p q = absurd q
mul_is (fin u m e) (inf v) s t a b p q = absurd q
mul_is (fin u m e) (fin v n d) s t a b p q =
    ap (λ (k : Bool). round binary64 (unlike k v) (m * up e * (n * up d)) (down e * down d)) p.0
    ∙ ap (λ (k : Bool). round binary64 (unlike s k) (m * up e * (n * up d)) (down e * down d)) q.0
    ∙ round_same binary64 (unlike s t) (m * up e * (n * up d)) (down e * down d) (a * b) (units_in_one * units_in_one) (mul-pos (down_pos e) (down_pos d)) (mul-pos (pow_pos 1074) (pow_pos 1074))
    (mul-mul-mul_comm (m * up e) (n * up d) units_in_one units_in_one ∙ ap (λ (k : ℕ). k * (n * up d * units_in_one)) p.1 ∙ ap (λ (k : ℕ). a * down e * k) q.1 ∙ mul-mul-mul_comm a (down e) b (down d))

-- ---- the distance of ±a and ±b, and a difference's size
abbrev pub apart : Bool → ℕ → Bool → ℕ → ℕ
apart s a t b = cond (beq s t) (a - b + (b - a)) (a + b)

pub sum_mag : (s t : Bool) (a b : ℕ) → T (finite (sum binary64 s a (not t) b units_in_one)) → mag (sum binary64 s a (not t) b units_in_one) ≡ grid binary64 (apart s a t b) units_in_one
unfolding sum
sum_mag s t a b = go s t
  where
    at : (u : Bool) (d e : ℕ) → d ≡ e → T (finite (round binary64 u d units_in_one)) → mag (round binary64 u d units_in_one) ≡ grid binary64 e units_in_one
    at u d e p h = (is_own_lem (round binary64 u d units_in_one) u (grid binary64 d units_in_one) (round_is_grid u d units_in_one h)).1 ∙ ap (λ (k : ℕ). grid binary64 k units_in_one) p

    less : (a b : ℕ) → a < b → b - a ≡ a - b + (b - a)
    less a b h = omega arith

    more : (a b : ℕ) → b ≤ a → a - b ≡ a - b + (b - a)
    more a b h = omega arith

    dif : (u v : Bool) (k : Bool) → (T k → a < b) → (T (not k) → b ≤ a) → T (finite (cond k (round binary64 u (b - a) units_in_one) (round binary64 v (a - b) units_in_one)))
        → mag (cond k (round binary64 u (b - a) units_in_one) (round binary64 v (a - b) units_in_one)) ≡ grid binary64 (a - b + (b - a)) units_in_one
    dif u v true f g h = at u (b - a) (a - b + (b - a)) (less a b (f tt)) h
    dif u v false f g h = at v (a - b) (a - b + (b - a)) (more a b (g tt)) h

    go : (s t : Bool) → T (finite (sum binary64 s a (not t) b units_in_one)) → mag (sum binary64 s a (not t) b units_in_one) ≡ grid binary64 (apart s a t b) units_in_one
    go true true h = dif false (true && ltb b a) (ltb a b) (ltb→lt a b) (nltb→le a b) h
    go true false h = at true (a + b) (a + b) refl h
    go false true h = at false (a + b) (a + b) refl h
    go false false h = dif true (false && ltb b a) (ltb a b) (ltb→lt a b) (nltb→le a b) h

-- a finite value is below 2 ^ 2098 units
pub below_top : (x : Float) (s : Bool) (a : ℕ) → T (fits binary64 x) → Is x s a → a < 2 ^ 2098
unfolding fits
below_top nan s a f v = absurd v
below_top (inf t) s a f v = absurd v
below_top (fin t zero e) s a f v = lt_of_le_of_lt (le_of_eq (none a (down e) (down_pos e) v.1)) (pow_pos 2098)
  where
    none : (a d : ℕ) → 0 < d → zero * up e * units_in_one ≡ a * d → a ≡ 0
    none zero d D h = refl
    none (suc a) d D h = absurd (lt_irrefl 0 (subst (λ (k : ℕ). 0 < k) (sym h ∙ ap (λ (k : ℕ). k * units_in_one) (zero-mul (up e)) ∙ zero-mul units_in_one) (mul-pos (zero-lt-suc a) D)))
below_top (fin t (suc m) e) s a f v =
    let under = ltb (suc m * up e) (2 ^ 1024 * down e) in
    let l = ltb→lt (suc m * up e) (2 ^ 1024 * down e) (and_r (eqb (suc m % 2) 1 && ltb (suc m) (2 ^ 53) && leb (down e) (2 ^ 1074)) under f) in
    lt_of_mul-lt-mul_right (down e)
    (lt_of_le_of_lt (le_of_eq (sym v.1))
    (lt_of_lt_of_le (mul-lt-mul_of_pos_right l (pow_pos 1074)) (le_of_eq (mul_right_comm (2 ^ 1024) (down e) units_in_one))))
