-- What the C of the reduction has from its language and its library: (double), (int), floor, scalbn. Definitions only.
use Rattle.std.specs.Prelude.{ℕ, ◌+◌, ◌-◌, ◌*◌, ◌^◌, ℤ, pos, negsuc, Float}
use Rattle.std.specs.Float.{binary64}
use Rattle.std.specs.Float.Ieee.{of_int, to_unsigned}
use Rattle.number.specs.Operators.{◌⊗◌, bits}

-- (double) of an int that is not negative
abbrev pub double : ℕ → Float
double n = of_int binary64 (pos n)

-- (int) of a number that is not negative: its whole part
abbrev pub int : Float → ℕ
int x = to_unsigned 31 x

-- floor of a number from 0 to 2 ^ 53: its whole part, as a number
abbrev pub floor : Float → Float
floor x = double (to_unsigned 53 x)

-- 2 ^ n, for n from -1022 to 1023: the bits have n + 1023 in the exponent's field
abbrev pub power : ℤ → Float
power (pos n) = bits ((1023 + n) * 2 ^ 52)
power (negsuc n) = bits ((1022 - n) * 2 ^ 52)

-- scalbn(x, n) = x * 2 ^ n: one product with a power of two, for every n that is used here
abbrev pub scalbn : Float → ℤ → Float
scalbn x n = x ⊗ power n
