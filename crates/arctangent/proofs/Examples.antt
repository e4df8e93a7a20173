-- Values of the arc tangents by evaluation; `computing` opens all that a closed term needs.
use mathlib.Core.Path.{◌≡◌, refl}
use lib.Ieee.{add, sub, mul, div, neg, of_bits, to_bits, is_nan}
use Rattle.number.specs.Operators.{bits}
use Rattle.number.specs.Helpers.{abs_of}
use Rattle.arctangent.specs.Arctangent.{far_of, from_known, folded_of, atan_of, by_signs, upright, far_along, quotient_of, angle_of, atan2_of}

unfoldable pub computing : Unit {0}
unfolding add sub mul div neg of_bits to_bits is_nan abs_of far_of from_known folded_of atan_of by_signs upright far_along quotient_of angle_of atan2_of
computing = tt

pub atan_zero : atan_of (bits 0) ≡ bits 0
unfolding computing
atan_zero = refl

-- two quarters of the plane
pub atan2_first : atan2_of (bits 0x3ff0000000000000) (bits 0x4000000000000000) ≡ bits 0x3fddac670561bb4f
unfolding computing
atan2_first = refl

pub atan2_left : atan2_of (bits 0x8000000000000000) (bits 0xbff0000000000000) ≡ bits 0xc00921fb54442d18
unfolding computing
atan2_left = refl
