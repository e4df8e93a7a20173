-- At a NaN it writes the pattern that the logic's `to_bits` has.
use mathlib.Core.Path.{refl, sym, ap, ◌∙◌}
use lib.Ieee.{binary64, to_bits}
use Rattle.number.proofs.Sign.{is_nan_lem}
use Rattle.number.proofs.to_bits.Goals as goal

pub returns-then-is_nan : goal.returns-then-is_nan
unfolding to_bits
returns-then-is_nan c = sym (ap (to_bits binary64) (is_nan_lem c.args.x (sym c.is_nan.ensures.value ∙ c.if-is_nan.true)))

pub returns-else-is_nan : goal.returns-else-is_nan
returns-else-is_nan c = refl
