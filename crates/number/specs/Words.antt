-- The fields and the words of a number's bits, as fdlibm's macros __HI and __LO give them. Definitions only.
use Rattle.std.specs.Prelude.{ℕ, ◌/◌, ◌^◌, Float}
use Rattle.std.specs.Int.Bits.{bit_and}
use Rattle.std.specs.Float.{binary64}
use Rattle.std.specs.Float.Ieee.{to_bits}

-- __HI(x) & 0x7fffffff, the C's ix: "the upper 32 bits of its magnitude"
abbrev pub high_word : Float → ℕ
high_word x = bit_and (to_bits binary64 x / 2 ^ 32) 0x7fffffff

-- (__HI(x) >> 31) & 1: whether hx < 0, as 0 or 1
abbrev pub sign_bit : Float → ℕ
sign_bit x = to_bits binary64 x / 2 ^ 63

-- (__HI(x) >> 20) & 0x7ff
abbrev pub exponent_field : Float → ℕ
exponent_field x = bit_and (to_bits binary64 x / 2 ^ 52) 0x7ff

-- __HI(x) & 0x7fffffff and __LO(x) as one number: 0 for the two zeros
abbrev pub magnitude_bits : Float → ℕ
magnitude_bits x = bit_and (to_bits binary64 x) 0x7fffffffffffffff
