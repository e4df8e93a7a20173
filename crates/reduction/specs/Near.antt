-- What the inner function at |x| < 3pi/4 gives. Definitions only.
use Rattle.std.specs.Prelude.{ℕ, eqb, Float}
use Rattle.loops.specs.Loop.{pick}
use Rattle.number.specs.Operators.{◌⊖◌, ◌⊗◌}
use Rattle.remainder.specs.declared.Reduction.{Reduction}
use Rattle.reduction.specs.Reduction.{pio2_2, pio2_2t, taken_of, first_difference}

-- the C's two special cases in one, for fn = 1 and n = 1 and for fn = -1 and n = 3: `near_above`, `near_below`
unfoldable pub near_of : Float → Float → ℕ → ℕ → Reduction
near_of x fn n ix =
    let d = first_difference x fn in
    pick (eqb ix 0x3ff921fb) (taken_of (record { r = d.r ⊖ fn ⊗ pio2_2; w = fn ⊗ pio2_2t }) n) (taken_of d n)
