-- The tolerance and refusal 5. Definitions only.
use Rattle.std.specs.Prelude.{Bool, ◌&&◌, Float}
use Rattle.number.specs.Operators.{bits, ◌≤?◌}
use Rattle.number.specs.Helpers.{one}
use Rattle.geometry.specs.declared.tolerance.Tolerance.{Tolerance}

-- "the constant DEFAULT: confusion 1e-7, angular 1e-12, parametric 1e-9"
unfoldable pub default_tolerance : Tolerance
default_tolerance = record {
  confusion = bits 0x3E7A_D7F2_9ABC_AF48;
  angular = bits 0x3D71_9799_812D_EA11;
  parametric = bits 0x3E11_2E0B_E826_D695;
}

-- "sets chord deviation to 1000 times confusion": how many times
abbrev pub chord_multiple : Float
chord_multiple = bits 0x408F_4000_0000_0000

-- "2^-40"
abbrev pub least_confusion : Float
least_confusion = bits 0x3D70_0000_0000_0000

-- what 5 lets through: "confusion not within 2^-40 to 1, or angular not within 0 to 1 (NaN fails both). The parametric tolerance isn't read."
unfoldable pub tolerance_fit : Tolerance → Bool
tolerance_fit t = least_confusion ≤? t.confusion && (t.confusion ≤? one && (bits 0 ≤? t.angular && t.angular ≤? one))
