-- `<` and `<=` order the numbers of binary64, the infinities among them, and are false at a NaN: reflexive, transitive, total, and `<` is "not >=".
-- On finite numbers the order is that of the whole numbers of units.
use mathlib.Core.Path.{◌≡◌, refl, sym, ap, ◌∙◌, subst}
use mathlib.Core.Logic.{◌⊎◌, inl, inr}
use Prim.Native.Nat.{ℕ, zero, suc, ◌+◌, ◌*◌, ◌/◌, ◌≤◌, ◌<◌, zero-le}
use native.Mathlib.Nat.{le_refl, le_trans, le_antisymm, mul_comm, mul_right_comm, mul_assoc, mul-le-mul_right, le_of_mul-le-mul_right}
use native.Mathlib.Nat.{mul-pos, zero-mul, zero-div, suc-mul, add_comm, div-mul-le_self, le-div_iff_mul-le, le_of_eq}
use native.Mathlib.Omega.{arith}
use mathlib.Core.Bool.{Bool, true, false, not, ◌&&◌, ◌||◌, and-true, cond}
use lib.IntN.{ℤ}
use lib.Dec.{T, ltb, eqb, ltb→lt, nltb→le, eqb→eq}
use lib.Arith.{le→nltb}
use lib.Pow.{pow_pos}
use lib.Ieee.{Float, nan, inf, fin, up, down, is_nan, lt, eq, le, below, level}
use lib.Ieee.Fits.{down_pos, eq→eqb}
use lib.Ieee.Scale.{finite}
use Rattle.number.specs.Operators.{◌<?◌, ◌≤?◌}
use Rattle.number.specs.Helpers.{min_of}
use Rattle.number.specs.Units.{units_in_one, mag, neg?}
use Rattle.number.proofs.Values.{Is, both_ways}

-- ---- ±a ≤ ±b, for two whole numbers with signs

abbrev pub Le : Bool → ℕ → Bool → ℕ → Type 0
Le false a false b = a ≤ b
Le false a true b = a + b ≡ 0
Le true a false b = T true
Le true a true b = b ≤ a

Le-refl : (s : Bool) (a : ℕ) → Le s a s a
Le-refl true a = le_refl a
Le-refl false a = le_refl a

Le-trans : (s t u : Bool) (a b c : ℕ) → Le s a t b → Le t b u c → Le s a u c
Le-trans false false false a b c p q = le_trans p q
Le-trans false false true a b c p q = omega arith
Le-trans false true false a b c p q = omega arith
Le-trans false true true a b c p q = omega arith
Le-trans true false false a b c p q = tt
Le-trans true false true a b c p q = omega arith
Le-trans true true false a b c p q = tt
Le-trans true true true a b c p q = le_trans q p

Le-scale : (s t : Bool) (a b k : ℕ) → Le s a t b → Le s (a * k) t (b * k)
Le-scale false false a b k h = mul-le-mul_right k h
Le-scale false true a b k h = omega (arith, ap (λ (n : ℕ). n * k) h, zero-mul k)
Le-scale true false a b k h = tt
Le-scale true true a b k h = mul-le-mul_right k h

none : (a k : ℕ) → 0 < k → a * k ≡ 0 → a ≡ 0
none zero k K h = refl
none (suc a) k K h = absurd (omega (arith, suc-mul a k))

Le-unscale : (s t : Bool) (a b k : ℕ) → 0 < k → Le s (a * k) t (b * k) → Le s a t b
Le-unscale false false a b k K h = le_of_mul-le-mul_right {k = k} h K
Le-unscale false true a b k K h =
    let x = none a k K (omega arith) in
    let y = none b k K (omega arith) in
    omega arith
Le-unscale true false a b k K h = tt
Le-unscale true true a b k K h = le_of_mul-le-mul_right {k = k} h K

-- where A / C and B / D are x / l and y / l, their orders are one
module _ (s t : Bool) (A B C D x y l : ℕ) (c : 0 < C) (d : 0 < D) (L : 0 < l) (p : A * l ≡ x * C) (q : B * l ≡ y * D) where
  left : A * D * l ≡ x * (C * D)
  left = mul_right_comm A D l ∙ ap (λ (n : ℕ). n * D) p ∙ mul_assoc x C D

  right : B * C * l ≡ y * (C * D)
  right = mul_right_comm B C l ∙ ap (λ (n : ℕ). n * C) q ∙ mul_assoc y D C ∙ ap (λ (n : ℕ). y * n) (mul_comm D C)

  Le-cross : Le s x t y → Le s (A * D) t (B * C)
  Le-cross h = Le-unscale s t (A * D) (B * C) l L (subst (λ (n : ℕ). Le s n t (B * C * l)) (sym left) (subst (λ (n : ℕ). Le s (x * (C * D)) t n) (sym right) (Le-scale s t x y (C * D) h)))

  Le-uncross : Le s (A * D) t (B * C) → Le s x t y
  Le-uncross h = Le-unscale s t x y (C * D) (mul-pos c d) (subst (λ (n : ℕ). Le s n t (y * (C * D))) left (subst (λ (n : ℕ). Le s (A * D * l) t n) right (Le-scale s t (A * D) (B * C) l h)))

-- ---- the tests on ±a and ±b: "less or equal" is "not greater", and is `Le`

-- the three ways that two whole numbers can stand
three : (a b : ℕ) (l g e : Bool) → (T l → a < b) → (T (not l) → b ≤ a) → (T g → b < a) → (T (not g) → a ≤ b) → (T e → a ≡ b) → (a ≡ b → T e) → (l || e) ≡ not g
three a b true true e p q r s u v = absurd (let x = p tt in let y = r tt in omega arith)
three a b true false e p q r s u v = refl
three a b false true true p q r s u v = absurd (let x = r tt in let y = u tt in omega arith)
three a b false true false p q r s u v = refl
three a b false false true p q r s u v = refl
three a b false false false p q r s u v = absurd (v (le_antisymm (s tt) (q tt)))

level_self : (a b : ℕ) → (ltb a b || (eqb a b && true)) ≡ not (ltb b a)
level_self a b =
    ap (λ (e : Bool). ltb a b || e) (and-true (eqb a b))
    ∙ three a b (ltb a b) (ltb b a) (eqb a b) (ltb→lt a b) (nltb→le a b) (ltb→lt b a) (nltb→le b a) (eqb→eq a b) eq→eqb

-- of unlike signs the two are level where both are 0
level_zero : (a b : ℕ) → (eqb a b && eqb a 0) ≡ not (ltb 0 (b + a))
level_zero a b = go (eqb a b) (eqb a 0) (ltb 0 (b + a)) (eqb→eq a b) eq→eqb (eqb→eq a 0) eq→eqb (ltb→lt 0 (b + a)) (nltb→le 0 (b + a))
  where
    go : (x y z : Bool) → (T x → a ≡ b) → (a ≡ b → T x) → (T y → a ≡ 0) → (a ≡ 0 → T y) → (T z → 0 < b + a) → (T (not z) → b + a ≤ 0) → (x && y) ≡ not z
    go true true true p p' q q' r r' = absurd (let x = p tt in let y = q tt in let z = r tt in omega arith)
    go true true false p p' q q' r r' = refl
    go true false true p p' q q' r r' = refl
    go true false false p p' q q' r r' = absurd (q' (let z = r' tt in omega arith))
    go false y true p p' q q' r r' = refl
    go false y false p p' q q' r r' = absurd (p' (let z = r' tt in omega arith))

or_level : (a b : ℕ) → (ltb 0 (a + b) || (eqb a b && eqb a 0)) ≡ true
or_level a b = ap (λ (x : Bool). ltb 0 (a + b) || x) (level_zero a b ∙ ap (λ (n : ℕ). not (ltb 0 n)) (add_comm b a)) ∙ go (ltb 0 (a + b))
  where
    go : (x : Bool) → (x || not x) ≡ true
    go true = refl
    go false = refl

not_greater : (s t : Bool) (a b : ℕ) → (below s a t b || level s a t b) ≡ not (below t b s a)
not_greater false false a b = level_self a b
not_greater false true a b = level_zero a b
not_greater true false a b = or_level a b
not_greater true true a b = ap (λ (e : Bool). ltb b a || (e && true)) (eqb_swap a b) ∙ level_self b a
  where
    eqb_swap : (a b : ℕ) → eqb a b ≡ eqb b a
    eqb_swap a b = both_ways (eqb a b) (eqb b a) (λ t. eq→eqb (sym (eqb→eq a b t))) (λ t. eq→eqb (sym (eqb→eq b a t)))

below→Le : (s t : Bool) (a b : ℕ) → T (not (below t b s a)) → Le s a t b
below→Le false false a b h = nltb→le b a h
below→Le false true a b h = let x = nltb→le 0 (b + a) h in omega arith
below→Le true false a b h = tt
below→Le true true a b h = nltb→le a b h

Le→below : (s t : Bool) (a b : ℕ) → Le s a t b → T (not (below t b s a))
Le→below false false a b h = le→nltb b a h
Le→below false true a b h = le→nltb 0 (b + a) (omega arith)
Le→below true false a b h = tt
Le→below true true a b h = le→nltb a b h

-- ---- the laws

-- "not at most" is "above" only between numbers
pub le_not_lt : (x y : Float) → T (not (is_nan x)) → T (not (is_nan y)) → (x ≤? y) ≡ not (y <? x)
unfolding is_nan le lt eq
le_not_lt nan y p q = absurd p
le_not_lt (inf s) nan p q = absurd q
le_not_lt (inf true) (inf true) p q = refl
le_not_lt (inf true) (inf false) p q = refl
le_not_lt (inf false) (inf true) p q = refl
le_not_lt (inf false) (inf false) p q = refl
le_not_lt (inf true) (fin t n d) p q = refl
le_not_lt (inf false) (fin t n d) p q = refl
le_not_lt (fin s m e) nan p q = absurd q
le_not_lt (fin s m e) (inf true) p q = refl
le_not_lt (fin s m e) (inf false) p q = refl
le_not_lt (fin s m e) (fin t n d) p q = not_greater s t (m * up e * down d) (n * up d * down e)

-- what is at most something, and what something is at most, is a number
pub le_numbers : (x y : Float) → T (x ≤? y) → T (not (is_nan x)) × T (not (is_nan y))
unfolding is_nan le lt eq
le_numbers nan y h = absurd h
le_numbers (inf s) nan h = absurd h
le_numbers (inf s) (inf t) h = (tt, tt)
le_numbers (inf s) (fin t n d) h = (tt, tt)
le_numbers (fin s m e) nan h = absurd h
le_numbers (fin s m e) (inf t) h = (tt, tt)
le_numbers (fin s m e) (fin t n d) h = (tt, tt)

-- between finite numbers: the fractions' cross products
le→Le : (s t : Bool) (m n : ℕ) (e d : ℤ) → T (fin s m e ≤? fin t n d) → Le s (m * up e * down d) t (n * up d * down e)
unfolding le lt eq
le→Le s t m n e d h = below→Le s t (m * up e * down d) (n * up d * down e) (subst T (not_greater s t (m * up e * down d) (n * up d * down e)) h)

Le→le : (s t : Bool) (m n : ℕ) (e d : ℤ) → Le s (m * up e * down d) t (n * up d * down e) → T (fin s m e ≤? fin t n d)
unfolding le lt eq
Le→le s t m n e d h = subst T (sym (not_greater s t (m * up e * down d) (n * up d * down e))) (Le→below s t (m * up e * down d) (n * up d * down e) h)

pub le_self : (x : Float) → T (not (is_nan x)) → T (x ≤? x)
unfolding is_nan
le_self nan h = absurd h
le_self (inf true) h = unfold le in tt
le_self (inf false) h = unfold le in tt
le_self (fin s m e) h = Le→le s s m m e e (Le-refl s (m * up e * down e))

-- three fractions over one denominator
thirds : (s t u : Bool) (a b c A B C : ℕ) → 0 < A → 0 < B → 0 < C → Le s (a * B) t (b * A) → Le t (b * C) u (c * B) → Le s (a * C) u (c * A)
thirds s t u a b c A B C pa pb pc p q =
    Le-unscale s u (a * C) (c * A) B pb
    (Le-trans s t u (a * C * B) (b * A * C) (c * A * B)
    (subst (λ (n : ℕ). Le s n t (b * A * C)) (mul_right_comm a B C) (Le-scale s t (a * B) (b * A) C p))
    (subst (λ (n : ℕ). Le t n u (c * A * B)) (mul_right_comm b C A) (subst (λ (n : ℕ). Le t (b * C * A) u n) (mul_right_comm c B A) (Le-scale t u (b * C) (c * B) A q))))

pub le_through : (x y z : Float) → T (x ≤? y) → T (y ≤? z) → T (x ≤? z)
le_through nan y z p q = unfold le in absurd p
le_through (inf s) nan z p q = unfold le in absurd p
le_through (inf true) (inf t) nan p q = unfold le in absurd q
le_through (inf true) (inf t) (inf true) p q = unfold le in tt
le_through (inf true) (inf t) (inf false) p q = unfold le in tt
le_through (inf true) (inf t) (fin u k c) p q = unfold le in tt
le_through (inf false) (inf true) z p q = unfold le in absurd p
le_through (inf false) (inf false) z p q = q
le_through (inf true) (fin t n d) nan p q = unfold le in absurd q
le_through (inf true) (fin t n d) (inf true) p q = unfold le in tt
le_through (inf true) (fin t n d) (inf false) p q = unfold le in tt
le_through (inf true) (fin t n d) (fin u k c) p q = unfold le in tt
le_through (inf false) (fin t n d) z p q = unfold le in absurd p
le_through (fin s m e) nan z p q = unfold le in absurd p
le_through (fin s m e) (inf true) z p q = unfold le in absurd p
le_through (fin s m e) (inf false) nan p q = unfold le in absurd q
le_through (fin s m e) (inf false) (inf true) p q = unfold le in absurd q
le_through (fin s m e) (inf false) (inf false) p q = unfold le in tt
le_through (fin s m e) (inf false) (fin u k c) p q = unfold le in absurd q
le_through (fin s m e) (fin t n d) nan p q = unfold le in absurd q
le_through (fin s m e) (fin t n d) (inf true) p q = unfold le in absurd q
le_through (fin s m e) (fin t n d) (inf false) p q = unfold le in tt
le_through (fin s m e) (fin t n d) (fin u k c) p q =
    Le→le s u m k e c (thirds s t u (m * up e) (n * up d) (k * up c) (down e) (down d) (down c) (down_pos e) (down_pos d) (down_pos c) (le→Le s t m n e d p) (le→Le t u n k d c q))

-- ---- `<` and `<=` together

lt_numbers : (x y : Float) → T (x <? y) → T (not (is_nan x)) × T (not (is_nan y))
unfolding is_nan lt
lt_numbers nan y h = absurd h
lt_numbers (inf s) nan h = absurd h
lt_numbers (inf s) (inf t) h = (tt, tt)
lt_numbers (inf s) (fin t n d) h = (tt, tt)
lt_numbers (fin s m e) nan h = absurd h
lt_numbers (fin s m e) (inf t) h = (tt, tt)
lt_numbers (fin s m e) (fin t n d) h = (tt, tt)

-- what is below is not above or level
pub lt→not_le : (x y : Float) → T (x <? y) → T (y ≤? x) → ⊥
lt→not_le x y h g =
    let n = lt_numbers x y h in
    go (x <? y) h (subst T (le_not_lt y x n.1 n.0) g)
  where
    go : (b : Bool) → T b → T (not b) → ⊥
    go true p q = q
    go false p q = p

pub not_le→lt : (x y : Float) → T (not (is_nan x)) → T (not (is_nan y)) → (T (y ≤? x) → ⊥) → T (x <? y)
not_le→lt x y p q f = go (x <? y) (λ t. f (subst T (sym (le_not_lt y x q p)) t))
  where
    go : (b : Bool) → (T (not b) → ⊥) → T b
    go true g = tt
    go false g = absurd (g tt)

pub not_lt→le : (x y : Float) → T (not (is_nan x)) → T (not (is_nan y)) → (T (x <? y) → ⊥) → T (y ≤? x)
not_lt→le x y p q f = subst T (sym (le_not_lt y x q p)) (go (x <? y) f)
  where
    go : (b : Bool) → (T b → ⊥) → T (not b)
    go true g = absurd (g tt)
    go false g = tt

pub lt→le : (x y : Float) → T (x <? y) → T (x ≤? y)
unfolding le
lt→le x y h = go (x <? y) h
  where
    go : (b : Bool) → T b → T (b || eq x y)
    go true t = tt
    go false t = absurd t

pub le_total : (x y : Float) → T (not (is_nan x)) → T (not (is_nan y)) → T (x ≤? y) ⊎ T (y ≤? x)
le_total x y p q = go (y <? x) (λ t. t) (λ t. subst T (sym (le_not_lt x y p q)) t)
  where
    go : (b : Bool) → (T b → T (y <? x)) → (T (not b) → T (x ≤? y)) → T (x ≤? y) ⊎ T (y ≤? x)
    go true f g = inr (lt→le y x (f tt))
    go false f g = inl (g tt)

pub lt_le_through : (x y z : Float) → T (x <? y) → T (y ≤? z) → T (x <? z)
lt_le_through x y z p q = not_le→lt x z (lt_numbers x y p).0 (le_numbers y z q).1 (λ t. lt→not_le x y p (le_through y z x q t))

pub le_lt_through : (x y z : Float) → T (x ≤? y) → T (y <? z) → T (x <? z)
le_lt_through x y z p q = not_le→lt x z (le_numbers x y p).0 (lt_numbers y z q).1 (λ t. lt→not_le y z q (le_through z x y t p))

-- ---- a minimum is at most each of the two, where that one is no NaN

pub min_left : (a b : Float) → T (not (is_nan a)) → T (min_of a b ≤? a)
unfolding min_of
min_left a b h = go (is_nan a) (is_nan b) (b <? a) refl (lt→le b a)
  where
    go : (m n l : Bool) → is_nan a ≡ m → (T l → T (b ≤? a)) → T (cond m b (cond n a (cond l b a)) ≤? a)
    go true n l p f = absurd (subst (λ (t : Bool). T (not t)) p h)
    go false true l p f = le_self a h
    go false false true p f = f tt
    go false false false p f = le_self a h

pub min_right : (a b : Float) → T (not (is_nan b)) → T (min_of a b ≤? b)
unfolding min_of
min_right a b h = go (is_nan a) (is_nan b) (b <? a) refl refl refl
  where
    go : (m n l : Bool) → is_nan a ≡ m → is_nan b ≡ n → (b <? a) ≡ l → T (cond m b (cond n a (cond l b a)) ≤? b)
    go true n l p q s = le_self b h
    go false true l p q s = absurd (subst (λ (t : Bool). T (not t)) q h)
    go false false true p q s = le_self b h
    go false false false p q s = not_lt→le b a h (subst (λ (t : Bool). T (not t)) (sym p) tt) (λ t. subst T s t)

-- ---- the order of finite numbers is that of their whole numbers of units

pub le→units : (x y : Float) (s t : Bool) (a b : ℕ) → Is x s a → Is y t b → T (x ≤? y) → Le s a t b
le→units nan y s t a b p q h = absurd p
le→units (inf u) y s t a b p q h = absurd p
le→units (fin u m e) nan s t a b p q h = absurd q
le→units (fin u m e) (inf v) s t a b p q h = absurd q
le→units (fin u m e) (fin v n d) s t a b p q h =
    Le-uncross s t (m * up e) (n * up d) (down e) (down d) a b units_in_one (down_pos e) (down_pos d) (pow_pos 1074) p.1 q.1
    (subst (λ (k : Bool). Le k (m * up e * down d) t (n * up d * down e)) p.0 (subst (λ (k : Bool). Le u (m * up e * down d) k (n * up d * down e)) q.0 (le→Le u v m n e d h)))

pub units→le : (x y : Float) (s t : Bool) (a b : ℕ) → Is x s a → Is y t b → Le s a t b → T (x ≤? y)
units→le nan y s t a b p q h = absurd p
units→le (inf u) y s t a b p q h = absurd p
units→le (fin u m e) nan s t a b p q h = absurd q
units→le (fin u m e) (inf v) s t a b p q h = absurd q
units→le (fin u m e) (fin v n d) s t a b p q h =
    Le→le u v m n e d
    (subst (λ (k : Bool). Le k (m * up e * down d) v (n * up d * down e)) (sym p.0) (subst (λ (k : Bool). Le s (m * up e * down d) k (n * up d * down e)) (sym q.0)
    (Le-cross s t (m * up e) (n * up d) (down e) (down d) a b units_in_one (down_pos e) (down_pos d) (pow_pos 1074) p.1 q.1 h)))

-- The whole units in a number, whatever its format, keep the order of numbers; and as many units as there are in a number are at most it.
pub le→mag : (x y : Float) → T (finite x) → T (finite y) → neg? x ≡ false → T (x ≤? y) → mag x ≤ mag y
le→mag nan y f g s h = absurd f
le→mag (inf u) y f g s h = absurd f
le→mag (fin u m e) nan f g s h = absurd g
le→mag (fin u m e) (inf v) f g s h = absurd g
le→mag (fin u m e) (fin v n d) f g s h = go v (subst (λ (k : Bool). Le k (m * up e * down d) v (n * up d * down e)) s (le→Le u v m n e d h))
  where
    go : (t : Bool) → Le false (m * up e * down d) t (n * up d * down e) → m * up e * units_in_one / down e ≤ n * up d * units_in_one / down d
    go false k =
        (le-div_iff_mul-le (down_pos d)).1
        (le_of_mul-le-mul_right {k = down e}
        (le_trans (le_of_eq (mul_right_comm (m * up e * units_in_one / down e) (down d) (down e)))
        (le_trans (mul-le-mul_right (down d) (div-mul-le_self (m * up e * units_in_one) (down e)))
        (le_trans (le_of_eq (mul_right_comm (m * up e) units_in_one (down d)))
        (le_trans (mul-le-mul_right units_in_one k) (le_of_eq (mul_right_comm (n * up d) (down e) units_in_one))))))
        (down_pos e))
    go true k =
        let z = none (m * up e) (down d) (down_pos d) (omega (arith, k)) in
        subst (λ (i : ℕ). i * units_in_one / down e ≤ n * up d * units_in_one / down d) (sym z) (le_trans (le_of_eq (ap (λ (i : ℕ). i / down e) (zero-mul units_in_one) ∙ zero-div (down e))) zero-le)

pub mag→le : (x y : Float) (a : ℕ) → Is x false a → T (finite y) → neg? y ≡ false → a ≤ mag y → T (x ≤? y)
mag→le nan y a p f s h = absurd p
mag→le (inf u) y a p f s h = absurd p
mag→le (fin u m e) nan a p f s h = absurd f
mag→le (fin u m e) (inf v) a p f s h = absurd f
mag→le (fin u m e) (fin v n d) a p f s h =
    Le→le u v m n e d
    (subst (λ (k : Bool). Le k (m * up e * down d) v (n * up d * down e)) (sym p.0) (subst (λ (k : Bool). Le false (m * up e * down d) k (n * up d * down e)) (sym s) below))
  where
    below : m * up e * down d ≤ n * up d * down e
    below =
        le_of_mul-le-mul_right {k = units_in_one}
        (le_trans (le_of_eq (mul_right_comm (m * up e) (down d) units_in_one ∙ ap (λ (i : ℕ). i * down d) p.1 ∙ mul_right_comm a (down e) (down d)))
        (le_trans (mul-le-mul_right (down e) ((le-div_iff_mul-le (down_pos d)).0 h)) (le_of_eq (mul_right_comm (n * up d) units_in_one (down e)))))
        (pow_pos 1074)
