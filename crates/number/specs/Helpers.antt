-- What the helpers on binary64 numbers give. Definitions only.
use Rattle.std.specs.Prelude.{Bool, false, cond, eqb, Float}
use Rattle.std.specs.Float.{nan, inf, fin, binary64}
use Rattle.std.specs.Float.Ieee.{is_nan, neg, to_bits}
use Rattle.number.specs.Operators.{bits, ◌<?◌, ◌≤?◌}

-- "positive zero": the Rust's `0.0`
abbrev pub positive_zero : Float
positive_zero = bits 0

-- the Rust's `1.0`
abbrev pub one : Float
one = bits 0x3FF0_0000_0000_0000

-- the Rust's `2.0`
abbrev pub two : Float
two = bits 0x4000_0000_0000_0000

-- the Rust's `0.5`, by which strides and trials shrink
abbrev pub half : Float
half = bits 0x3FE0_0000_0000_0000

-- the Rust's `0.1`: "a tenth of confusion", "0.1 of the stride"
abbrev pub tenth : Float
tenth = bits 0x3FB9_9999_9999_999A

-- "`sum` starts from the zero of the oracle's toolchain": -0.0
abbrev pub sum_start : Float
sum_start = neg (bits 0)

-- "smallest normal": 2^-1022, the Rust's `f64::MIN_POSITIVE`
abbrev pub min_positive : Float
min_positive = bits 0x0010_0000_0000_0000

-- "Absolute value clears the sign bit"; a NaN stays a NaN
unfoldable pub abs_of : Float → Float
abs_of nan = nan
abs_of (inf s) = inf false
abs_of (fin s m e) = fin false m e

-- maximum: "drop a NaN when the other is a number"; of two equal ones the first is given
unfoldable pub max_of : Float → Float → Float
unfolding is_nan
max_of a b = cond (is_nan a) b (cond (is_nan b) a (cond (a <? b) b a))

-- minimum: likewise
unfoldable pub min_of : Float → Float → Float
unfolding is_nan
min_of a b = cond (is_nan a) b (cond (is_nan b) a (cond (b <? a) b a))

-- "clamp gives the end overstepped, else the number itself"
abbrev pub clamp_of : Float → Float → Float → Float
clamp_of x lo hi = cond (x <? lo) lo (cond (hi <? x) hi x)

-- at most the limit in magnitude: false at a NaN, and at an infinity under a finite limit
abbrev pub magnitude_at_most : Float → Float → Bool
magnitude_at_most x limit = abs_of x ≤? limit

-- "2^20": the greatest magnitude that 1, 17 and 18 let through
abbrev pub greatest_magnitude : Float
greatest_magnitude = bits 0x4130_0000_0000_0000

-- of a number under 1, 17 and 18: neither "not finite" nor "above 2^20 in magnitude"
unfoldable pub number_fit : Float → Bool
number_fit x = magnitude_at_most x greatest_magnitude

-- equal in bits, "All NaNs count as one": the logic has one NaN with one pattern, and -0 has another pattern than +0
unfoldable pub same_bits : Float → Float → Bool
unfolding to_bits
same_bits a b = eqb (to_bits binary64 a) (to_bits binary64 b)
