-- Where each part of a job file stands, counted in bytes (01, "The job program"). Definitions only.
use Rattle.std.specs.Prelude.{ℕ}

-- "A surface is a kind byte", "a mark byte", "12 frame numbers", "two sizes", "window low and high of u, then of v: 146 bytes"

-- the mark byte, behind the kind byte
abbrev pub marks_place : ℕ
marks_place = 1

-- "1 for u, 2 for v, added": the greatest
abbrev pub both_marks : ℕ
both_marks = 3

-- the 12 frame numbers
abbrev pub frame_place : ℕ
frame_place = 2

-- the first size
abbrev pub first_size_place : ℕ
first_size_place = 98

-- the second size
abbrev pub second_size_place : ℕ
second_size_place = 106

-- the window of u: low, high
abbrev pub u_window_place : ℕ
u_window_place = 114

-- the window of v
abbrev pub v_window_place : ℕ
v_window_place = 130

-- how many bytes a surface has
abbrev pub surface_bytes : ℕ
surface_bytes = 146

-- "a 4-byte length (343), a version byte 1, surface A, surface B, confusion, angular, four guess numbers, a 2-byte cap"

-- the version byte, behind the length
abbrev pub version_place : ℕ
version_place = 4

-- surface A
abbrev pub surface_a_place : ℕ
surface_a_place = 5

-- surface B
abbrev pub surface_b_place : ℕ
surface_b_place = 151

-- confusion
abbrev pub confusion_place : ℕ
confusion_place = 297

-- angular
abbrev pub angular_place : ℕ
angular_place = 305

-- the four guess numbers
abbrev pub guess_place : ℕ
guess_place = 313

-- the step cap
abbrev pub cap_place : ℕ
cap_place = 345

-- how many bytes a job file has
abbrev pub job_bytes : ℕ
job_bytes = 347

-- what the length field says: the bytes behind it
abbrev pub following : ℕ
following = 343
