-- The trace file as a list of bytes, and what is read out of one (02, A1). Definitions only.
use Rattle.std.specs.Prelude.{Bool, true, ◌&&◌, List, [], ◌∷◌, ◌++◌, ℕ, ◌*◌, eqb, ltb, leb, length, take, Float}
use Rattle.std.specs.Float.Ieee.Scale.{finite}
use Rattle.wire.specs.Wire.{byte_at, uint_at, numbers_from, one_byte, uint_bytes, numbers_bytes}
use Rattle.groups.specs.Groups.{count_fits}
use Rattle.groups.specs.Traced.{greatest_code}
use Rattle.trace_file.specs.Layout.{version_place, count_place, start_place, code_place, numbers_place, file_bytes, following}

-- ---- what 20 lets through in both directions

-- not "a count outside 4 to 4001, a start index not below the count, a code above 2"
unfoldable pub claim_fits : ℕ → ℕ → ℕ → Bool
claim_fits count start code = count_fits count && (ltb start count && leb code greatest_code)

-- not "a number that is not finite"
unfoldable pub all_finite : List Float → Bool
all_finite [] = true
all_finite (x ∷ l) = finite x && all_finite l

-- ---- the bytes of a trace

-- "a 4-byte length of what follows, version byte .., 2-byte count, 2-byte start index, one code byte"
unfoldable pub header_of : ℕ → ℕ → ℕ → ℕ → ℕ → List ℕ
header_of version w count start code = uint_bytes 4 (following w count) ++ one_byte version ++ uint_bytes 2 count ++ uint_bytes 2 start ++ one_byte code

-- the file: "then seven 8-byte numbers a point", here w, from the head of a list
unfoldable pub file_of : ℕ → ℕ → List Float → ℕ → ℕ → ℕ → List ℕ
file_of version w l count start code = header_of version w count start code ++ numbers_bytes (take (w * count) l)

-- ---- what a file says

-- its "2-byte count"
abbrev pub count_in : List ℕ → ℕ
count_in s = uint_at 2 s count_place

-- its "2-byte start index"
abbrev pub start_in : List ℕ → ℕ
start_in s = uint_at 2 s start_place

-- its "one code byte"
abbrev pub code_in : List ℕ → ℕ
code_in s = byte_at s code_place

-- the numbers of its points
abbrev pub numbers_in : ℕ → List ℕ → List Float
numbers_in w s = numbers_from s numbers_place (w * count_in s)

-- not "a length that doesn't agree with the count and the bytes handed over"
unfoldable pub length_agrees : ℕ → List ℕ → Bool
length_agrees w s = eqb (uint_at 4 s 0) (following w (count_in s)) && eqb (length s) (file_bytes w (count_in s))

-- all that 20 asks of what stands before the numbers: that it is there, its version, its count, start and code, its length
unfoldable pub header_fits : ℕ → ℕ → List ℕ → Bool
header_fits version w s =
    leb numbers_place (length s) && (eqb (byte_at s version_place) version && (claim_fits (count_in s) (start_in s) (code_in s) && length_agrees w s))
