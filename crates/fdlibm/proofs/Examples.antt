-- Values of the functions by evaluation; `computing` opens all that a closed term needs.
use mathlib.Core.Path.{◌≡◌, refl}
use Rattle.number.specs.Operators.{bits}
use Rattle.fdlibm.specs.Kernel.{kernel_sin, kernel_cos, qx_of}
use Rattle.reduction.proofs.Computing as reduction
use Rattle.fdlibm.specs.Sine.{sin_at, cos_at, sin_of, cos_of}

unfoldable pub computing : Unit {0}
unfolding reduction.computing kernel_sin kernel_cos qx_of sin_at cos_at sin_of cos_of
computing = tt

pub sin_zero : sin_of (bits 0) ≡ bits 0
unfolding computing
sin_zero = refl

pub sin_minus_zero : sin_of (bits 0x8000000000000000) ≡ bits 0x8000000000000000
unfolding computing
sin_minus_zero = refl

pub cos_zero : cos_of (bits 0) ≡ bits 0x3ff0000000000000
unfolding computing
cos_zero = refl

-- the sine of the number nearest to pi/2, and the cosine of that nearest to pi
pub sin_right : sin_of (bits 0x3ff921fb54442d18) ≡ bits 0x3ff0000000000000
unfolding computing
sin_right = refl

pub cos_half_turn : cos_of (bits 0x400921fb54442d18) ≡ bits 0xbff0000000000000
unfolding computing
cos_half_turn = refl

-- large angles: the sine of 1e22 and of the greatest finite number, and the cosine of 6381956970095103 * 2 ^ 797, which is closest to a zero
pub sin_large : sin_of (bits 0x4480f0cf064dd592) ≡ bits 0xbfeb453ab76bf397
unfolding computing
sin_large = refl

pub sin_greatest : sin_of (bits 0x7fefffffffffffff) ≡ bits 0x3f7452fc98b34e97
unfolding computing
sin_greatest = refl

pub cos_closest : cos_of (bits 0x7506ac5b262ca1ff) ≡ bits 0xbc214ae72e6ba22f
unfolding computing
cos_closest = refl
