-- The four cases of the code, by the exponent as it is read.
use mathlib.Core.Path.{◌≡◌, sym, ap, ◌∙◌, subst}
use Prim.Native.Nat.{ℕ, ◌-◌, ◌*◌, ◌%◌, ◌^◌, ◌≤◌}
use native.Mathlib.Nat.{one-mul, mod-eq_of_lt, lt_of_le_of_lt}
use lib.Dec.{T, lit<}
use lib.Pow.{pow_mono}
use lib.Ieee.{binary64, to_unsigned, fits}
use Rattle.number.proofs.Sign.{is_nan_lem, no_nan}
use Rattle.remainder.proofs.Truncation.{no_part, whole_part, most_part, negative_part}
use Rattle.remainder.proofs.machine.truncated.Goals as goal
use Rattle.remainder.proofs.machine.truncated.Goals.{Start}

held : (c : Start) → T (fits binary64 c.args.x)
held c = subst T (sym c.well_formed.0.1) tt

shifted : (w : ℕ) → w ≤ 53 → 1 * 2 ^ w % 2 ^ 64 ≡ 2 ^ w
shifted w h = ap (λ (n : ℕ). n % 2 ^ 64) (one-mul (2 ^ w)) ∙ mod-eq_of_lt (lt_of_le_of_lt (pow_mono {i = w} {j = 53} h) (lit< tt))

pub returns-then-is_nan : goal.returns-then-is_nan
unfolding to_unsigned
returns-then-is_nan c = sym (ap (to_unsigned c.args.w) (is_nan_lem c.args.x (sym c.is_nan.ensures.value ∙ c.if-is_nan.true)))

pub returns-then-exponent-lt1023 : goal.returns-then-exponent-lt1023
returns-then-exponent-lt1023 c =
    let s = (goal.at.returns-then-exponent-lt1023 c).Start in
    sym (no_part c.args.w c.requires c.args.x (held s) c.if-exponent-lt1023.true)

pub returns-then-exponent-w : goal.returns-then-exponent-w
returns-then-exponent-w c =
    let s = (goal.at.returns-then-exponent-w c).Start in
    sym (whole_part c.args.w c.requires c.args.x (held s) c.if-exponent-lt1023.false c.if-exponent-w.true)

pub returns-then-exponent-lt2048 : goal.returns-then-exponent-lt2048
returns-then-exponent-lt2048 c =
    let s = (goal.at.returns-then-exponent-lt2048 c).Start in
    let n = no_nan c.args.x (sym c.is_nan.ensures.value ∙ c.if-is_nan.false) in
    ap (λ (n : ℕ). n - 1) (shifted c.args.w c.requires)
    ∙ sym (most_part c.args.w c.requires c.args.x (held s) n c.if-exponent-w.false c.if-exponent-lt2048.true)

pub returns-else-exponent-lt2048 : goal.returns-else-exponent-lt2048
returns-else-exponent-lt2048 c =
    let s = (goal.at.returns-else-exponent-lt2048 c).Start in
    sym (negative_part c.args.w c.requires c.args.x (held s) c.if-exponent-lt2048.false)
