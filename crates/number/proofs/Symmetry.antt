-- What may be exchanged: a * b and b * a, and the squares of a - b and b - a.
use mathlib.Core.Path.{◌≡◌, refl, sym, ap, ◌∙◌}
use Prim.Native.Nat.{ℕ, zero, suc, ◌+◌, ◌-◌, ◌*◌, ◌/◌, ◌%◌, ◌^◌, ◌≤◌, ◌<◌, compare}
use native.Mathlib.Nat.{add_comm, mul_comm}
use native.Mathlib.Omega.{arith}
use mathlib.Core.Bool.{Bool, true, false, not, ◌&&◌, beq, not-not, cond}
use lib.Dec.{T, ltb, eqb, ltb→lt, nltb→le}
use lib.Ieee.{Float, nan, inf, fin, binary64, emax, low, unlike, up, down, size, nearest, odd, units, round, sum, neg, add, sub, mul}
use lib.Ieee.Fits.{round_is}
use Rattle.number.specs.Operators.{◌⊖◌, ◌⊗◌}

beq_swap : (s t : Bool) → beq s t ≡ beq t s
beq_swap true true = refl
beq_swap true false = refl
beq_swap false true = refl
beq_swap false false = refl

-- ---- sums

-- ±a / c + ±b / c, by whether a < b and b < a
parts : Bool → ℕ → Bool → ℕ → ℕ → Bool → Bool → Float
parts s a t b c l g = cond (beq s t) (round binary64 s (a + b) c) (cond l (round binary64 t (b - a) c) (round binary64 (s && g) (a - b) c))

swapped : (s t : Bool) (a b c : ℕ) (l g : Bool) → (T l → a < b) → (T g → b < a) → (T (not l) → b ≤ a) → (T (not g) → a ≤ b) → parts s a t b c l g ≡ parts t b s a c g l
unfolding parts
swapped true true a b c l g x y u v = ap (λ (k : ℕ). round binary64 true k c) (add_comm a b)
swapped false false a b c l g x y u v = ap (λ (k : ℕ). round binary64 false k c) (add_comm a b)
swapped true false a b c true true x y u v = absurd (let p = x tt in let q = y tt in omega arith)
swapped true false a b c true false x y u v = refl
swapped true false a b c false true x y u v = refl
swapped true false a b c false false x y u v = ap (λ (k : ℕ). round binary64 false k c) (let p = u tt in let q = v tt in omega arith)
swapped false true a b c true true x y u v = absurd (let p = x tt in let q = y tt in omega arith)
swapped false true a b c true false x y u v = refl
swapped false true a b c false true x y u v = refl
swapped false true a b c false false x y u v = ap (λ (k : ℕ). round binary64 false k c) (let p = u tt in let q = v tt in omega arith)

sum_swap : (s t : Bool) (a b c : ℕ) → sum binary64 s a t b c ≡ sum binary64 t b s a c
unfolding sum parts
sum_swap s t a b c = swapped s t a b c (ltb a b) (ltb b a) (ltb→lt a b) (ltb→lt b a) (nltb→le a b) (nltb→le b a)

-- ---- products
pub mul_swap : (x y : Float) → x ⊗ y ≡ y ⊗ x
unfolding mul
mul_swap nan nan = refl
mul_swap nan (inf t) = refl
mul_swap nan (fin t n d) = refl
mul_swap (inf s) nan = refl
mul_swap (inf s) (inf t) = ap (λ (b : Bool). inf (not b)) (beq_swap s t)
mul_swap (inf s) (fin t n d) = ap (λ (b : Bool). cond (eqb n 0) nan (inf (not b))) (beq_swap s t)
mul_swap (fin s m e) nan = refl
mul_swap (fin s m e) (inf t) = ap (λ (b : Bool). cond (eqb m 0) nan (inf (not b))) (beq_swap s t)
mul_swap (fin s m e) (fin t n d) =
    ap (λ (b : Bool). round binary64 (not b) (m * up e * (n * up d)) (down e * down d)) (beq_swap s t)
    ∙ ap (λ (k : ℕ). round binary64 (unlike t s) k (down e * down d)) (mul_comm (m * up e) (n * up d))
    ∙ ap (round binary64 (unlike t s) (n * up d * (m * up e))) (mul_comm (down e) (down d))

-- ---- the squares of a difference and of the difference changed round
-- (-x) * (-x) is x * x
unlike_not : (s t : Bool) → unlike (not s) (not t) ≡ unlike s t
unlike_not true true = refl
unlike_not true false = refl
unlike_not false true = refl
unlike_not false false = refl

pub square_neg : (x : Float) → neg x ⊗ neg x ≡ x ⊗ x
unfolding neg mul
square_neg nan = refl
square_neg (inf true) = refl
square_neg (inf false) = refl
square_neg (fin s m e) = ap (λ (b : Bool). round binary64 b (m * up e * (m * up e)) (down e * down e)) (unlike_not s s)

-- rounding is the same on both sides of zero
odd_neg : (d : ℕ) (s : Bool) (q k l : ℕ) → odd d (not s) q k l ≡ neg (odd d s q k l)
unfolding odd neg
odd_neg d s zero k l = refl
odd_neg d s (suc q) k l = refl

units_neg : (s : Bool) (q k : ℕ) → units binary64 (not s) q k ≡ neg (units binary64 s q k)
unfolding units
units_neg s q k = go (ltb (q * 2 ^ k) (2 ^ (low binary64 + suc (emax binary64))))
  where
    go : (b : Bool) → cond b (odd 54 (not s) q k 1074) (inf (not s)) ≡ neg (cond b (odd 54 s q k 1074) (inf s))
    go true = odd_neg 54 s q k 1074
    go false = unfold neg in refl

pub round_neg : (s : Bool) (a c : ℕ) → round binary64 (not s) a c ≡ neg (round binary64 s a c)
round_neg s a c =
    let n = a * 2 ^ 1074 in
    let k = size (n / c) - 53 in
    let q = nearest (n / (c * 2 ^ k)) (compare (n % (c * 2 ^ k) * 2) (c * 2 ^ k)) in
    round_is binary64 (not s) a c ∙ units_neg s q k ∙ ap neg (sym (round_is binary64 s a c))

square : Float → Float
square x = x ⊗ x

opposite : (s : Bool) (a c : ℕ) → square (round binary64 (not s) a c) ≡ square (round binary64 s a c)
unfolding square
opposite s a c = ap square (round_neg s a c) ∙ square_neg (round binary64 s a c)

-- with both signs changed a sum has the same square
changed : (s u : Bool) (a b c : ℕ) (l g : Bool) → square (parts (not s) a (not u) b c l g) ≡ square (parts s a u b c l g)
unfolding parts
changed true true a b c l g = opposite true (a + b) c
changed false false a b c l g = opposite false (a + b) c
changed true false a b c true g = opposite false (b - a) c
changed true false a b c false true = opposite true (a - b) c
changed true false a b c false false = refl
changed false true a b c true g = opposite true (b - a) c
changed false true a b c false true = opposite false (a - b) c
changed false true a b c false false = refl

sum_changed : (s t : Bool) (a b c : ℕ) → square (sum binary64 t b (not s) a c) ≡ square (sum binary64 s a (not t) b c)
unfolding sum parts
sum_changed s t a b c =
    ap square (sum_swap t (not s) b a c)
    ∙ ap (λ (k : Bool). square (sum binary64 (not s) a k b c)) (sym (not-not t))
    ∙ changed s (not t) a b c (ltb a b) (ltb b a)

pub square_swap : (x y : Float) → (y ⊖ x) ⊗ (y ⊖ x) ≡ (x ⊖ y) ⊗ (x ⊖ y)
unfolding square sub add neg
square_swap nan nan = refl
square_swap nan (inf t) = refl
square_swap nan (fin t n d) = refl
square_swap (inf s) nan = refl
square_swap (inf true) (inf true) = refl
square_swap (inf true) (inf false) = unfold mul in refl
square_swap (inf false) (inf true) = unfold mul in refl
square_swap (inf false) (inf false) = refl
square_swap (inf true) (fin t n d) = unfold mul in refl
square_swap (inf false) (fin t n d) = unfold mul in refl
square_swap (fin s m e) nan = refl
square_swap (fin s m e) (inf true) = unfold mul in refl
square_swap (fin s m e) (inf false) = unfold mul in refl
square_swap (fin s m e) (fin t n d) =
    ap (λ (k : ℕ). square (sum binary64 t (n * up d * down e) (not s) (m * up e * down d) k)) (mul_comm (down d) (down e))
    ∙ sum_changed s t (m * up e * down d) (n * up d * down e) (down e * down d)
