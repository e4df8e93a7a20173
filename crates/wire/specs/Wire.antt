-- Numbers in a list of bytes, big-endian. Definitions only.
use Rattle.std.specs.Prelude.{ℕ, zero, suc, ◌+◌, ◌*◌, ◌/◌, ◌%◌, ◌^◌, ◌<◌, List, [], ◌∷◌, ◌++◌, get_or, Float}
use Rattle.std.specs.Float.{binary64}
use Rattle.std.specs.Float.Ieee.{to_bits}
use Rattle.number.specs.Operators.{bits}

-- a byte
abbrev pub byte_at : List ℕ → ℕ → ℕ
byte_at s at = get_or s at 0

-- the number of n bytes; "big-endian": of several the first weighs most
unfoldable pub uint_at : ℕ → List ℕ → ℕ → ℕ
uint_at zero s at = 0
uint_at (suc n) s at = byte_at s at * 256 ^ n + uint_at n s (at + 1)

-- a number, by its eight bytes; "All NaNs count as one": every NaN pattern is a NaN
unfoldable pub number_at : List ℕ → ℕ → Float
number_at s at = bits (uint_at 8 s at)

-- n numbers from byte `at` on
unfoldable pub numbers_from : List ℕ → ℕ → ℕ → List Float
numbers_from s at zero = []
numbers_from s at (suc n) = number_at s at ∷ numbers_from s (at + 8) n

-- ---- the bytes of numbers

-- a byte
abbrev pub one_byte : ℕ → List ℕ
one_byte x = x ∷ []

-- the n bytes of a number, the first of which weighs most
unfoldable pub uint_bytes : ℕ → ℕ → List ℕ
uint_bytes zero x = []
uint_bytes (suc n) x = x / 256 ^ n ∷ uint_bytes n (x % 256 ^ n)

-- a number's eight bytes
unfoldable pub number_bytes : Float → List ℕ
number_bytes x = uint_bytes 8 (to_bits binary64 x)

-- numbers one behind the other
unfoldable pub numbers_bytes : List Float → List ℕ
numbers_bytes [] = []
numbers_bytes (x ∷ l) = number_bytes x ++ numbers_bytes l

-- every element is a byte, as in every list of bytes that a program lends
abbrev pub AllBytes : List ℕ → Type 0
AllBytes s = (k : ℕ) → get_or s k 0 < 256
