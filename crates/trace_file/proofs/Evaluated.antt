-- The file's parts at values that can be read off. By evaluation.
use mathlib.Core.Path.{◌≡◌, refl}
use mathlib.Core.List.{[], ◌∷◌}
use mathlib.Core.Bool.{true, false}
use lib.Ieee.{of_bits, to_bits}
use Rattle.number.specs.Operators.{bits}
use Rattle.wire.specs.Wire.{uint_bytes, number_bytes}
use Rattle.groups.specs.Groups.{count_fits}
use Rattle.trace_file.specs.Layout.{file_bytes, version1, width1}
use Rattle.trace_file.specs.File.{claim_fits, all_finite, header_of}

unfoldable computing : Unit {0}
unfolding of_bits to_bits uint_bytes number_bytes count_fits claim_fits all_finite header_of
computing = tt

-- four points, the last of them the start, closed backward; 4001 points, closed forward
pub head_of_four : header_of version1 width1 4 3 2 ≡ 0 ∷ 0 ∷ 0 ∷ 230 ∷ 1 ∷ 0 ∷ 4 ∷ 0 ∷ 3 ∷ 2 ∷ []
unfolding computing
head_of_four = refl

pub head_of_4001 : header_of version1 width1 4001 4000 1 ≡ 0 ∷ 3 ∷ 107 ∷ 62 ∷ 1 ∷ 15 ∷ 161 ∷ 15 ∷ 160 ∷ 1 ∷ []
unfolding computing
head_of_4001 = refl

pub bytes_of_4001 : file_bytes width1 4001 ≡ 224066
bytes_of_4001 = refl

-- 1, -0 and the least subnormal number
pub one_as_bytes : number_bytes (bits 0x3ff0000000000000) ≡ 63 ∷ 240 ∷ 0 ∷ 0 ∷ 0 ∷ 0 ∷ 0 ∷ 0 ∷ []
unfolding computing
one_as_bytes = refl

pub minus_zero_as_bytes : number_bytes (bits 0x8000000000000000) ≡ 128 ∷ 0 ∷ 0 ∷ 0 ∷ 0 ∷ 0 ∷ 0 ∷ 0 ∷ []
unfolding computing
minus_zero_as_bytes = refl

pub least_as_bytes : number_bytes (bits 1) ≡ 0 ∷ 0 ∷ 0 ∷ 0 ∷ 0 ∷ 0 ∷ 0 ∷ 1 ∷ []
unfolding computing
least_as_bytes = refl

-- the ends of what 20 lets through
pub three_points : claim_fits 3 0 0 ≡ false
unfolding computing
three_points = refl

pub most_points_lem : claim_fits 4001 4000 2 ≡ true
unfolding computing
most_points_lem = refl

pub start_at_the_count : claim_fits 4 4 0 ≡ false
unfolding computing
start_at_the_count = refl

pub code_above_two : claim_fits 4 0 3 ≡ false
unfolding computing
code_above_two = refl

pub infinite_behind : all_finite (bits 0 ∷ bits 0x7ff0000000000000 ∷ []) ≡ false
unfolding computing
infinite_behind = refl
