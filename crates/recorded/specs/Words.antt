-- The words of a record, big-endian. Definitions only.
use Rattle.std.specs.Prelude.{ℕ, ◌+◌, ◌*◌, Bool, true, false, cond, List, length, ◌==◌, nat_le, nat_lt, slice_index_or, slice_set, to_bits, Float}
use Rattle.std.specs.Float.{binary64, nan}
use Rattle.loops.specs.Loop.{pick, ranged}
use Rattle.loops.specs.Any.{any_in}
use Rattle.number.specs.Operators.{bits}
use Rattle.wire.specs.Wire.{uint_at}

-- the eight bytes from `at` on, or 0 where there are fewer
abbrev pub word_at : List ℕ → ℕ → ℕ
word_at s at = cond (nat_le (at + 8) (length s)) (uint_at 8 s at) 0

-- a length, or as much as there is room for
abbrev pub at_most_of : ℕ → ℕ → ℕ
at_most_of x most = pick (nat_lt x most) x most

-- each number is that of its word
abbrev pub load_at : List ℕ → ℕ → List Float → List Float
load_at s k t = slice_set t k (bits (word_at s (8 * k)))

abbrev pub loaded_of : List ℕ → List Float → List Float
loaded_of s t = ranged (load_at s) 0 (length t) t

-- the bits of some number are not its word
abbrev pub differ_at : List ℕ → List Float → ℕ → Bool
differ_at s t k = pick (to_bits binary64 (slice_index_or t k nan) == word_at s (8 * k)) false true

abbrev pub differ_of : List ℕ → List Float → Bool
differ_of s t = any_in (differ_at s t) 0 (length t)
