-- The mask takes the sign bit off a pattern that is no NaN's.
use mathlib.Core.Path.{sym, ap, ◌∙◌, subst}
use Prim.Native.Nat.{ℕ}
use mathlib.Core.Bool.{not}
use lib.Dec.{T}
use lib.Bits.{and_mask}
use lib.Ieee.{binary64, fits, to_bits, of_bits, nan_bits}
use Rattle.number.specs.Helpers.{abs_of}
use Rattle.number.proofs.Sign.{abs_back, abs_no_nan, is_nan_lem, no_nan}
use Rattle.number.proofs.abs.Goals as goal
use Rattle.number.proofs.abs.Goals.{Start}

held : (c : Start) → T (fits binary64 c.args.x)
held c = subst T (sym c.well_formed.0.1) tt

pub float_from_bits-result : goal.float_from_bits-result
float_from_bits-result c =
    let x = c.args.x in
    subst (λ (k : ℕ). T (not (nan_bits binary64 k))) (sym (and_mask (to_bits binary64 x) 63)) (abs_no_nan x (held (goal.at.float_from_bits-result c).Start) (no_nan x (sym c.is_nan.ensures.value ∙ c.if-is_nan.false)))

pub returns-then-is_nan : goal.returns-then-is_nan
unfolding abs_of
returns-then-is_nan c = let e = is_nan_lem c.args.x (sym c.is_nan.ensures.value ∙ c.if-is_nan.true) in e ∙ sym (ap abs_of e)

pub returns-else-is_nan : goal.returns-else-is_nan
returns-else-is_nan c =
    let x = c.args.x in
    ap (of_bits binary64) (and_mask (to_bits binary64 x) 63) ∙ abs_back x (held (goal.at.returns-else-is_nan c).Start) (no_nan x (sym c.is_nan.ensures.value ∙ c.if-is_nan.false))
