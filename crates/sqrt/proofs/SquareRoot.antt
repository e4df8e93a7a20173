-- THE SQUARE ROOT IS IEEE 754's: `sqrt_of` gives, for every binary64 number, what `IsSquareRoot` asks. So nobody needs to believe
-- `sqrt_of`.
use Rattle.std.proofs.Common.{◌≡◌, zero, suc, true, false, T, sym, refl, ap, subst}
use mathlib.Core.Bool.{false≢true}
use lib.Ieee.{Float, nan, inf, fin, binary64, fits}
use Rattle.number.specs.Units.{neg?}
use Rattle.sqrt.specs.SquareRoot.{Zero, IsSquareRoot}
use Rattle.sqrt.specs.Sqrt.{sqrt_of, SqrtGives}
use Rattle.sqrt.proofs.Correct.{sqrt_correct}
use Rattle.sqrt.proofs.Laws.{zero_mag, zero_root}

-- negative, and no zero
negative_root : (x : Float) → neg? x ≡ true → (Zero x → ⊥) → sqrt_of x ≡ nan
unfolding sqrt_of
negative_root nan n z = refl
negative_root (inf true) n z = refl
negative_root (inf false) n z = absurd (false≢true n)
negative_root (fin s zero e) n z = absurd (z (tt, zero_mag s e))
negative_root (fin true (suc m) e) n z = refl
negative_root (fin false (suc m) e) n z = absurd (false≢true n)

infinity_root : (x : Float) → x ≡ inf false → sqrt_of x ≡ inf false
unfolding sqrt_of
infinity_root x e = ap sqrt_of e

nan_root : (x : Float) → x ≡ nan → sqrt_of x ≡ nan
unfolding sqrt_of
nan_root x e = ap sqrt_of e

pub sqrt_root : (x : Float) → T (fits binary64 x) → IsSquareRoot x (sqrt_of x)
sqrt_root x f = record {
  nearest = sqrt_correct x f;
  zeros = λ z. zero_root x f z.0 z.1;
  other_negative = negative_root x;
  infinite = infinity_root x;
  no_number = nan_root x;
}

-- what a function that gives `sqrt_of x` promises
pub gives : (x r : Float) → T (fits binary64 x) → r ≡ sqrt_of x → SqrtGives x r
gives x r f e = record { answer = e; root = subst (IsSquareRoot x) (sym e) (sqrt_root x f) }
