-- Where each part of a trace file stands, counted in bytes (02, A1), for any version and any count of numbers a point. Definitions only.
use Rattle.std.specs.Prelude.{ℕ, ◌+◌, ◌*◌, ◌-◌}

-- "a 4-byte length of what follows" stands first; the "version byte"
abbrev pub version_place : ℕ
version_place = 4

-- "2-byte count"
abbrev pub count_place : ℕ
count_place = 5

-- "2-byte start index"
abbrev pub start_place : ℕ
start_place = 7

-- "one code byte"
abbrev pub code_place : ℕ
code_place = 9

-- "then .. 8-byte numbers", w for each point
abbrev pub numbers_place : ℕ
numbers_place = 10

-- how many bytes the file of `count` points has
abbrev pub file_bytes : ℕ → ℕ → ℕ
file_bytes w count = numbers_place + 8 * (w * count)

-- "length of what follows"
abbrev pub following : ℕ → ℕ → ℕ
following w count = file_bytes w count - version_place

-- "version byte 1"
abbrev pub version1 : ℕ
version1 = 1

-- "seven 8-byte numbers a point": version 1's own seven
abbrev pub width1 : ℕ
width1 = 7

-- no version has more numbers a point: the inner functions ask it, so that no product is too large
abbrev pub most_width : ℕ
most_width = 16
