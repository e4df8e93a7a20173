-- `sqrt_of` of a number, by the three fields of its bit pattern.
use Rattle.std.proofs.Common.{◌≡◌, ℕ, zero, suc, ◌+◌, ◌*◌, ◌^◌, ◌<◌, ◌≤◌, Bool, true, false, cond, eqb, ◌⊎◌, sym, refl, ap, ◌∙◌, subst, inl, inr, true≢false, lt_irrefl, eq-or-lt_of_le, mul-pos, zero-mul, arith, pow_pos}
use mathlib.Core.Bool.{false≢true}
use lib.Ieee.{Float, nan, inf, fin, up, down, of_fields}
use lib.Ieee.Fits.{down_pos}
use Rattle.number.specs.Units.{units_in_one}
use Rattle.number.proofs.Values.{Is, is_own_lem}
use Rattle.number.proofs.Fields.{at, subnormal, normal}
use Rattle.sqrt.specs.Sqrt.{sqrt_of, round_root}
use Rattle.sqrt.specs.Nearest.{units_of}

-- ---- a value above or below zero
no_value : (e : lib.IntN.ℤ) (a : ℕ) → 0 < a → zero * up e * units_in_one ≡ a * down e → ⊥
no_value e a A h = lt_irrefl 0 (subst (λ (k : ℕ). 0 < k) (sym h ∙ ap (λ (k : ℕ). k * units_in_one) (zero-mul (up e)) ∙ zero-mul units_in_one) (mul-pos A (down_pos e)))

pub sqrt_value : (x : Float) (a : ℕ) → 0 < a → Is x false a → sqrt_of x ≡ round_root (a * units_in_one)
unfolding sqrt_of
sqrt_value nan a A h = absurd h
sqrt_value (inf s) a A h = absurd h
sqrt_value (fin true m e) a A h = absurd (true≢false h.0)
sqrt_value (fin false zero e) a A h = absurd (no_value e a A h.1)
sqrt_value (fin false (suc m) e) a A h = ap (λ (k : ℕ). round_root (k * units_in_one)) (is_own_lem (fin false (suc m) e) false a h).1

below_value : (x : Float) (a : ℕ) → 0 < a → Is x true a → sqrt_of x ≡ nan
unfolding sqrt_of
below_value nan a A h = absurd h
below_value (inf s) a A h = absurd h
below_value (fin false m e) a A h = absurd (false≢true h.0)
below_value (fin true zero e) a A h = absurd (no_value e a A h.1)
below_value (fin true (suc m) e) a A h = refl

-- ---- by the fields
pub zero_field : (s : Bool) → sqrt_of (at s 0 0) ≡ at s 0 0
unfolding sqrt_of of_fields
zero_field s = refl

mid_pos : (x t : ℕ) → 0 < (2 ^ 52 + t) * 2 ^ x
mid_pos x t = mul-pos (omega arith) (pow_pos x)

units_pos : (x t : ℕ) → 0 < x + t → 0 < units_of x t
unfolding units_of
units_pos zero t h = omega arith
units_pos (suc x) t h = mid_pos x t

finite_value : (s : Bool) (x t : ℕ) → x < 2047 → Is (at s x t) s (units_of x t)
unfolding units_of
finite_value s zero t k = subnormal s t
finite_value s (suc x) t k = normal s x t k

-- a finite number above 0
pub positive : (x t : ℕ) → x < 2047 → 0 < x + t → sqrt_of (at false x t) ≡ round_root (units_of x t * units_in_one)
positive x t k h = sqrt_value (at false x t) (units_of x t) (units_pos x t h) (finite_value false x t k)

pub infinite : (t : ℕ) → sqrt_of (at false 2047 t) ≡ at false 2047 t
unfolding of_fields
infinite t = go (eqb t 0)
  where
    go : (b : Bool) → sqrt_of (cond b (inf false) nan) ≡ cond b (inf false) nan
    go true = unfold sqrt_of in refl
    go false = unfold sqrt_of in refl

top_neg : (t : ℕ) → sqrt_of (at true 2047 t) ≡ nan
unfolding of_fields
top_neg t = go (eqb t 0)
  where
    go : (b : Bool) → sqrt_of (cond b (inf true) nan) ≡ nan
    go true = unfold sqrt_of in refl
    go false = unfold sqrt_of in refl

pub negative : (x t : ℕ) → x ≤ 2047 → 0 < x + t → sqrt_of (at true x t) ≡ nan
negative x t h p = go (eq-or-lt_of_le h)
  where
    go : (x ≡ 2047) ⊎ (x < 2047) → sqrt_of (at true x t) ≡ nan
    go (inl e) = subst (λ (y : ℕ). sqrt_of (at true y t) ≡ nan) (sym e) (top_neg t)
    go (inr l) = below_value (at true x t) (units_of x t) (units_pos x t p) (finite_value true x t l)
