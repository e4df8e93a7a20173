-- Sums, differences and products of finite numbers beside the exact ones, as whole numbers of units.
use mathlib.Core.Path.{◌≡◌, refl, sym, ap, ◌∙◌, subst}
use Prim.Native.Nat.{ℕ, zero, suc, ◌+◌, ◌-◌, ◌*◌, ◌^◌, ◌≤◌, ◌<◌, zero-le}
use native.Mathlib.Nat.{le_trans, le_of_eq, add-zero}
use native.Mathlib.Omega.{arith}
use mathlib.Core.Bool.{Bool, true, false, not, ◌&&◌, beq, cond}
use lib.IntN.{ℤ, pos, negsuc, neg_ℤ, nat_abs, sub_ℕ, ◌+ℤ◌, ◌-ℤ◌, +ℤ_comm, neg_ℤ-+ℤ}
use lib.Dec.{T, ltb, ltb→lt, nltb→le}
use lib.Pow.{pow_pos}
use lib.Ieee.{Float, binary64, unlike, round, sum, fits}
use lib.Ieee.Exact.{round_exact}
use lib.Ieee.Scale.{grid, finite}
use Rattle.number.specs.Operators.{◌⊕◌}
use Rattle.number.specs.Units.{units_in_one, mag, neg?, signed, in_units}
use Rattle.number.proofs.Values.{Is, Held, is_own_lem, whole, round_is_grid, add_is, apart}
use Rattle.number.proofs.Rounding.{Within, error_whole}
use Rattle.number.proofs.Finite.{add_finite}

-- ---- integers with a sign and a size

abs_sub : (a b : ℕ) → nat_abs (sub_ℕ a b) ≡ a - b + (b - a)
abs_sub a b = go (ltb a b) (ltb→lt a b) (nltb→le a b)
  where
    go : (k : Bool) → (T k → a < b) → (T (not k) → b ≤ a) → nat_abs (cond k (negsuc (b - suc a)) (pos (a - b))) ≡ a - b + (b - a)
    go true f g = let h = f tt in omega arith
    go false f g = let h = g tt in omega arith

-- the distance of ±a and ±b
pub apart_is : (s t : Bool) (a b : ℕ) → nat_abs (signed s a -ℤ signed t b) ≡ apart s a t b
apart_is true true zero zero = refl
apart_is true true zero (suc b) = omega arith
apart_is true true (suc a) zero = omega (arith, abs_sub 0 (suc a))
apart_is true true (suc a) (suc b) = omega (arith, abs_sub (suc b) (suc a))
apart_is true false zero zero = refl
apart_is true false zero (suc b) = omega (arith, abs_sub 0 (suc b))
apart_is true false (suc a) zero = omega (arith, abs_sub 0 (suc a))
apart_is true false (suc a) (suc b) = omega arith
apart_is false true zero zero = refl
apart_is false true zero (suc b) = refl
apart_is false true (suc a) zero = refl
apart_is false true (suc a) (suc b) = refl
apart_is false false zero zero = refl
apart_is false false zero (suc b) = omega (arith, abs_sub 0 (suc b))
apart_is false false (suc a) zero = omega arith
apart_is false false (suc a) (suc b) = omega (arith, abs_sub (suc a) (suc b))

signed_abs : (s : Bool) (a : ℕ) → nat_abs (signed s a) ≡ a
signed_abs true zero = refl
signed_abs true (suc a) = refl
signed_abs false a = refl

-- ±a + ±b as one sign and one size
less : (a b : ℕ) → a < b → sub_ℕ a b ≡ neg_ℤ (pos (b - a))
less a b h = go (ltb a b) (nltb→le a b) (b - a) refl
  where
    go : (k : Bool) → (T (not k) → b ≤ a) → (n : ℕ) → n ≡ b - a → cond k (negsuc (b - suc a)) (pos (a - b)) ≡ neg_ℤ (pos n)
    go true f zero e = absurd (omega arith)
    go true f (suc n) e = ap negsuc (let x : b - suc a ≡ n = omega arith in x)
    go false f n e = absurd (let x = f tt in omega arith)

more : (a b : ℕ) → b ≤ a → sub_ℕ a b ≡ pos (a - b)
more a b h = go (ltb a b) (ltb→lt a b)
  where
    go : (k : Bool) → (T k → a < b) → cond k (negsuc (b - suc a)) (pos (a - b)) ≡ pos (a - b)
    go true f = absurd (let x = f tt in omega arith)
    go false f = refl

minus : (a b : ℕ) → pos a -ℤ pos b ≡ sub_ℕ a b
minus a zero = ap pos (let e : a + 0 ≡ a - 0 = omega arith in e) ∙ sym (more a 0 zero-le)
minus a (suc b) = refl

-- `sum` rounds the exact sum ±a + ±b
record Summed (s : Bool) (a : ℕ) (t : Bool) (b : ℕ) : Type 0 where
  pub sign : Bool
  pub size : ℕ
  pub is : sum binary64 s a t b units_in_one ≡ round binary64 sign size units_in_one
  pub exact : signed sign size ≡ signed s a +ℤ signed t b

summed : (s t : Bool) (a b : ℕ) → Summed s a t b
unfolding sum
summed true true a b = record { sign = true; size = a + b; is = refl; exact = neg_ℤ-+ℤ (pos a) (pos b) }
summed false false a b = record { sign = false; size = a + b; is = refl; exact = refl }
summed true false a b = go (ltb a b) (ltb b a) (ltb→lt a b) (nltb→le a b) (ltb→lt b a) (nltb→le b a) refl refl
  where
    as_minus : signed true a +ℤ signed false b ≡ sub_ℕ b a
    as_minus = +ℤ_comm (signed true a) (pos b) ∙ minus b a

    rest : Bool → Float
    rest k = round binary64 (true && k) (a - b) units_in_one

    chosen : Bool → Float
    chosen k = cond k (round binary64 false (b - a) units_in_one) (rest (ltb b a))

    go : (l g : Bool) → (T l → a < b) → (T (not l) → b ≤ a) → (T g → b < a) → (T (not g) → a ≤ b) → ltb a b ≡ l → ltb b a ≡ g → Summed true a false b
    go true g p q r u e f = record { sign = false; size = b - a; is = ap chosen e; exact = sym (as_minus ∙ more b a (let x = p tt in omega arith)) }
    go false true p q r u e f = record { sign = true; size = a - b; is = ap chosen e ∙ ap rest f; exact = sym (as_minus ∙ less b a (r tt)) }
    go false false p q r u e f = record {
      sign = false;
      size = a - b;
      is = ap chosen e ∙ ap rest f;
      exact = sym (as_minus ∙ more b a (u tt) ∙ ap pos (let x = q tt in let y = u tt in omega arith));
    }
summed false true a b = go (ltb a b) (ltb→lt a b) (nltb→le a b) refl
  where
    chosen : Bool → Float
    chosen k = cond k (round binary64 true (b - a) units_in_one) (round binary64 false (a - b) units_in_one)

    go : (l : Bool) → (T l → a < b) → (T (not l) → b ≤ a) → ltb a b ≡ l → Summed false a true b
    go true p q e = record { sign = true; size = b - a; is = ap chosen e; exact = sym (minus a b ∙ less a b (p tt)) }
    go false p q e = record { sign = false; size = a - b; is = ap chosen e; exact = sym (minus a b ∙ more a b (q tt)) }

-- the value of a rounded ±n units, where it is finite
pub round_units : (s : Bool) (n : ℕ) → T (finite (round binary64 s n units_in_one)) → in_units (round binary64 s n units_in_one) ≡ signed s (grid binary64 n units_in_one)
round_units s n h =
    let o = is_own_lem (round binary64 s n units_in_one) s (grid binary64 n units_in_one) (round_is_grid s n units_in_one h) in
    ap (λ (k : Bool). signed k (mag (round binary64 s n units_in_one))) o.0 ∙ ap (signed s) o.1

beq_self : (s : Bool) → beq s s ≡ true
beq_self true = refl
beq_self false = refl

-- from bounds on sizes to a bound on the distance of ±g and ±n
close : (s : Bool) (g n u : ℕ) → Within (g * 2 ^ 53) (n * 2 ^ 53) (n + u) → nat_abs (signed s g -ℤ signed s n) * 2 ^ 53 ≤ nat_abs (signed s n) + u
close s g n u w =
    subst (λ (k : ℕ). k * 2 ^ 53 ≤ nat_abs (signed s n) + u) (sym (apart_is s s g n ∙ ap (λ (b : Bool). cond b (g - n + (n - g)) (g + n)) (beq_self s)))
    (subst (λ (k : ℕ). (g - n + (n - g)) * 2 ^ 53 ≤ k + u) (sym (signed_abs s n)) (omega (arith, w.0, w.1)))

module _ (x y : Float) (fx : T (fits binary64 x)) (fy : T (fits binary64 y)) (h : T (finite (x ⊕ y))) where
  abbrev plus : Summed (neg? x) (mag x) (neg? y) (mag y)
  plus = summed (neg? x) (neg? y) (mag x) (mag y)

  as_round : x ⊕ y ≡ round binary64 plus.sign plus.size units_in_one
  as_round = add_is x y (neg? x) (neg? y) (mag x) (mag y) (whole x fx (add_finite x y h).0) (whole y fy (add_finite x y h).1) ∙ plus.is

  -- a sum is one part in 2 ^ 53 or less from the exact one: nothing is lost to underflow
  pub sum_error : nat_abs (in_units (x ⊕ y) -ℤ (in_units x +ℤ in_units y)) * 2 ^ 53 ≤ nat_abs (in_units x +ℤ in_units y)
  sum_error =
      let s = plus.sign in
      let n = plus.size in
      let g = grid binary64 n units_in_one in
      subst (λ (z : ℤ). nat_abs (in_units (x ⊕ y) -ℤ z) * 2 ^ 53 ≤ nat_abs z) plus.exact
      (subst (λ (v : ℤ). nat_abs (v -ℤ signed s n) * 2 ^ 53 ≤ nat_abs (signed s n))
      (sym (ap in_units as_round ∙ round_units s n (subst (λ (v : Float). T (finite v)) as_round h)))
      (le_trans (close s g n 0 (spare g n (error_whole n units_in_one (pow_pos 1074)))) (le_of_eq (add-zero (nat_abs (signed s n))))))
    where
      spare : (g n : ℕ) → Within (g * 2 ^ 53) (n * 2 ^ 53) n → Within (g * 2 ^ 53) (n * 2 ^ 53) (n + 0)
      spare g n w = (omega (arith, w.0), omega (arith, w.1))

-- ±n units are their own rounding where binary64 holds them
pub round_held : (s : Bool) (n : ℕ) → Held n → n < 2 ^ 2098 → Is (round binary64 s n units_in_one) s n
round_held s n h top =
    round_exact binary64 s n units_in_one h.0 h.1 (pow_pos 1074) h.2 (subst (λ (k : ℕ). k < 2 ^ 2098) h.3 top) (ap (λ (k : ℕ). k * units_in_one) h.3)

-- a factor that is not negative keeps the sign
pub unlike_false : (s : Bool) → unlike s false ≡ s
unlike_false true = refl
unlike_false false = refl
