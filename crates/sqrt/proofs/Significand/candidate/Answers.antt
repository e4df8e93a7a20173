-- Its patterns are no NaN's, and a NaN stays one.
use Rattle.std.proofs.Common.{not, T, arith, sym, ◌∙◌}
use Rattle.std.proofs.lemmas.Float.{not_nan_f64_bits}
use lib.Ieee.{Float, nan, inf, fin, add, sub, mul, div, neg, is_nan}
use Rattle.number.specs.Operators.{◌⊕◌, ◌⊖◌, ◌⊗◌, ◌⊘◌}
use Rattle.number.proofs.Sign.{no_nan}
use Rattle.sqrt.proofs.Significand.candidate.Goals as goal

-- what is left of a root cut to a NaN is a NaN
stays : (cut k v near l : Float) → let s = cut ⊖ k in T (not (is_nan ((v ⊖ s ⊗ s) ⊘ (s ⊕ near) ⊕ l))) → T (not (is_nan cut))
unfolding is_nan add sub mul div neg
stays nan k nan near l h = h
stays nan k (inf s) near l h = h
stays nan k (fin s m e) near l h = h
stays (inf s) k v near l h = tt
stays (fin s m e) k v near l h = tt

pub float_from_bits-f : goal.float_from_bits-f
float_from_bits-f c = not_nan_f64_bits _ (omega arith)

pub float_from_bits-v : goal.float_from_bits-v
float_from_bits-v c = not_nan_f64_bits _ (omega arith)

pub float_to_bits-result : goal.float_to_bits-result
float_to_bits-result c = stays _ _ _ _ _ (no_nan _ (sym c.is_nan.ensures.value ∙ c.if-is_nan.false))
