-- Each arm is a fact of `Fields` on the three fields, and `gives` turns the equation into the contract.
use Rattle.std.proofs.Common.{◌≡◌, ℕ, ◌/◌, ◌%◌, ◌^◌, ◌<◌, ◌≤◌, Bool, true, false, T, leb, sym, ap, ◌∙◌, subst, arith, le→leb}
use lib.Arith.{lt→nleb}
use lib.Pow.{field}
use lib.Bits.{bit_and, and_mask}
use lib.Ieee.{Float, binary64, to_bits, of_bits, fits, div}
use lib.Ieee.Bits.{to_bits-lt, is_true, is_false}
use Rattle.sqrt.specs.Sqrt.{sqrt_of, round_root}
use Rattle.number.proofs.Sign.{is_nan_lem}
use Rattle.sqrt.proofs.SquareRoot.{gives}
use Rattle.number.proofs.Fields.{at, fields}
use Rattle.sqrt.proofs.Fields.{zero_field, positive, infinite, negative}
use Rattle.sqrt.proofs.sqrt.Goals as goal
use Rattle.sqrt.proofs.sqrt.Goals.{Else-is_nan}

-- x, no NaN, and the fields of its pattern
module _ (c : Else-is_nan) where
  abbrev x : Float
  x = c.args.x

  abbrev b : ℕ
  b = to_bits binary64 x

  held : T (fits binary64 x)
  held = subst T (sym c.well_formed.0.1) tt

  in_64 : b < 2 ^ 64
  in_64 = to_bits-lt binary64 x held

  abbrev e : ℕ
  e = bit_and (b / 2 ^ 52) 2047

  abbrev t : ℕ
  t = bit_and b 4503599627370495

  exponent : e ≡ b % 2 ^ 63 / 2 ^ 52
  exponent = and_mask (b / 2 ^ 52) 11 ∙ sym (field b 11 52)

  fraction : t ≡ b % 2 ^ 52
  fraction = and_mask b 52

  exp_le : e ≤ 2047
  exp_le = omega (arith, and_mask (b / 2 ^ 52) 11)

  is : x ≡ at (leb (2 ^ 63) b) e t
  is = fields x held ∙ ap (λ (k : ℕ). at (leb (2 ^ 63) b) k (b % 2 ^ 52)) (sym exponent) ∙ ap (at (leb (2 ^ 63) b) e) (sym fraction)

  is_neg : b / 2 ^ 63 ≡ 1 → x ≡ at true e t
  is_neg h = is ∙ ap (λ (s : Bool). at s e t) (is_true (leb (2 ^ 63) b) (le→leb (2 ^ 63) b (omega arith)))

  is_pos : (b / 2 ^ 63 ≡ 1 → ⊥) → x ≡ at false e t
  is_pos h = is ∙ ap (λ (s : Bool). at s e t) (is_false (leb (2 ^ 63) b) (lt→nleb (2 ^ 63) b (omega (arith, in_64))))

-- a NaN
pub returns-then-is_nan : goal.returns-then-is_nan
unfolding sqrt_of
returns-then-is_nan c =
    let e = is_nan_lem c.args.x (sym c.is_nan.ensures.value ∙ c.if-is_nan.true) in
    gives c.args.x _ (subst T (sym c.well_formed.0.1) tt) (e ∙ sym (ap sqrt_of e))

-- a zero
pub returns-then-exponent-fraction-eq0 : goal.returns-then-exponent-fraction-eq0
returns-then-exponent-fraction-eq0 c =
    let d = (goal.at.returns-then-exponent-fraction-eq0 c).Else-is_nan in
    let s = leb (2 ^ 63) (b d) in
    let z : (e d ≡ 0) × (t d ≡ 0) = (omega (arith, c.if-exponent-fraction-eq0.true), omega (arith, c.if-exponent-fraction-eq0.true)) in
    let q : x d ≡ at s 0 0 = is d ∙ ap (λ (y : ℕ). at s y (t d)) z.0 ∙ ap (at s 0) z.1 in
    gives (x d) _ (held d) (q ∙ sym (zero_field s) ∙ sym (ap sqrt_of q))

-- negative
pub returns-then-sign-eq1 : goal.returns-then-sign-eq1
unfolding of_bits div
returns-then-sign-eq1 c =
    let d = (goal.at.returns-then-sign-eq1 c).Else-is_nan in
    let n = negative (e d) (t d) (exp_le d) (omega (arith, c.if-exponent-fraction-eq0.false)) in
    gives (x d) _ (held d) (sym (ap sqrt_of (is_neg d c.if-sign-eq1.true) ∙ n))

-- the infinity
pub returns-then-exponent-eq2047 : goal.returns-then-exponent-eq2047
returns-then-exponent-eq2047 c =
    let d = (goal.at.returns-then-exponent-eq2047 c).Else-is_nan in
    let q : x d ≡ at false 2047 (t d) = is_pos d c.if-sign-eq1.false ∙ ap (λ (k : ℕ). at false k (t d)) c.if-exponent-eq2047.true in
    gives (x d) _ (held d) (q ∙ sym (infinite (t d)) ∙ sym (ap sqrt_of q))

-- finite, and above zero
pub returns-else-exponent-eq2047 : goal.returns-else-exponent-eq2047
returns-else-exponent-eq2047 c =
    let d = (goal.at.returns-else-exponent-eq2047 c).Else-is_nan in
    let p = positive (e d) (t d) (omega (arith, exp_le d, c.if-exponent-eq2047.false)) (omega (arith, c.if-exponent-fraction-eq0.false)) in
    gives (x d) _ (held d) (c.root.ensures ∙ ap round_root c.scaled.ensures ∙ sym (ap sqrt_of (is_pos d c.if-sign-eq1.false) ∙ p))
