-- The shift takes no bit off.
use Rattle.std.proofs.Common.{◌≡◌, ℕ, zero, suc, ◌+◌, ◌-◌, ◌*◌, ◌%◌, ◌^◌, ◌≤◌, refl, ap, sym, ◌∙◌, add_comm, mul-one, arith, lit≤}
use lib.Count.{count_leading_zeros}
use Rattle.number.specs.Units.{units_in_one}
use Rattle.sqrt.specs.Nearest.{units_of}
use Rattle.sqrt.proofs.Scale.{Shifted, shifted, shift_is, scaled}
use Rattle.sqrt.proofs.Significand.scaled.Goals as goal
use Rattle.sqrt.proofs.Significand.scaled.Goals.{Then-exponent-eq0}

-- ---- a subnormal number
module _ (c : Then-exponent-eq0) where
  abbrev t : ℕ
  t = c.args.fraction

  abbrev z : ℕ
  z = count_leading_zeros 64 t - 11

  is : (11 ≤ count_leading_zeros 64 t) × Shifted t z
  is = shifted t (omega (arith, c.if-exponent-eq0.true)) (omega arith)

  same : (t * 2 ^ z) % 2 ^ 64 ≡ t * 2 ^ z
  same = shift_is t z 53 (lit≤ tt) is.1.hi

pub overflow_sub-z : goal.overflow_sub-z
overflow_sub-z c = (is c).0

pub invariant_of-result : goal.invariant_of-result
invariant_of-result c =
    let d = goal.at.invariant_of-result c in
    let s = (is d.Then-exponent-eq0).1 in
    let e = same d.Then-exponent-eq0 in
    record { leading = omega (arith, e, s.lo); digits = omega (arith, e, s.hi); top = omega arith }

small : (t z : ℕ) → z ≤ 52 → t * 2 ^ z * 2 ^ (1022 - z + 52) ≡ units_of 0 t * units_in_one
unfolding units_of
small t z h = sym (scaled t 0 z h) ∙ ap (λ (x : ℕ). x * units_in_one) (mul-one t)

pub returns-then-exponent-eq0 : goal.returns-then-exponent-eq0
returns-then-exponent-eq0 c =
    let d = goal.at.returns-then-exponent-eq0 c in
    rw (same d.Then-exponent-eq0, c.if-exponent-eq0.true) (small _ _ (is d.Then-exponent-eq0).1.few)

-- ---- a normal one
normal : (e t : ℕ) → (e ≡ 0 → ⊥) → (t + 2 ^ 52) * 2 ^ (e + 1021 + 52) ≡ units_of e t * units_in_one
unfolding units_of
normal zero t n = absurd (n refl)
normal (suc e) t n =
    let m = ap (λ (x : ℕ). x * 2 ^ (e + 1022 - 0 + 52)) (mul-one (2 ^ 52 + t) ∙ add_comm (2 ^ 52) t) in
    sym (scaled (2 ^ 52 + t) e 0 (lit≤ tt) ∙ m ∙ ap (λ (x : ℕ). (t + 2 ^ 52) * 2 ^ x) (sum e))
  where
    sum : (e : ℕ) → e + 1022 - 0 + 52 ≡ suc e + 1021 + 52
    sum e = omega arith

pub returns : goal.returns
returns c = normal c.args.exponent c.args.fraction c.if-exponent-eq0.false
