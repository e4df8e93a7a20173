-- The products' high words are the C's table, by one computed test of its 32 entries.
use mathlib.Core.Path.{◌≡◌, refl, sym}
use mathlib.Core.Bool.{Bool, true, false, not, false≢true}
use Prim.Native.Nat.{ℕ, ◌<◌}
use native.Mathlib.Omega.{arith}
use lib.Dec.{T, eqb, eqb→eq}
use lib.IntN.{pos}
use lib.ListN.{get_or}
use lib.Ieee.{binary64, of_int}
use Rattle.loops.specs.Loop.{exits}
use Rattle.loops.specs.Any.{any_in}
use Rattle.loops.proofs.Any.{any_fails}
use Rattle.number.specs.Operators.{◌⊗◌}
use Rattle.number.specs.Words.{high_word}
use Rattle.reduction.specs.Reduction.{pio2_1, npio2hw}
use Rattle.reduction.proofs.Computing.{computing}
use Rattle.reduction.proofs.npio2_hw.Goals as goal

abbrev word : ℕ → ℕ
word n = high_word (of_int binary64 (pos n) ⊗ pio2_1)

abbrev differs : ℕ → Bool
differs n = not (eqb (word n) (get_or npio2hw n 0))

none_differs : any_in differs 0 32 ≡ false
unfolding computing exits
none_differs = refl

holds : (b : Bool) → not b ≡ false → T b
holds true e = tt
holds false e = absurd (false≢true (sym e))

entry : (n : ℕ) → n < 32 → word n ≡ get_or npio2hw n 0
entry n h = eqb→eq (word n) (get_or npio2hw n 0) (holds (eqb (word n) (get_or npio2hw n 0)) (any_fails differs 0 32 none_differs n (omega arith) h))

pub returns : goal.returns
returns c = rw c.high_word.ensures (entry _ c.requires)
