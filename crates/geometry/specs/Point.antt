-- Points, in the order of evaluation of point.rs, and the exact squared gap of two. Definitions only.
use Rattle.std.specs.Prelude.{ℕ, ◌+◌, ◌*◌, Bool, ◌&&◌, nat_abs, ◌-ℤ◌, List, get_or, Float}
use Rattle.std.specs.Float.{nan}
use Rattle.number.specs.Operators.{bits, ◌⊕◌, ◌⊖◌, ◌⊗◌}
use Rattle.number.specs.Helpers.{number_fit}
use Rattle.number.specs.Units.{in_units}
use Rattle.sqrt.specs.Sqrt.{sqrt_of}
use Rattle.geometry.specs.declared.vector.Vector3D.{Vector3D}
use Rattle.geometry.specs.declared.point.Point3D.{Point3D}

-- Point3D::new
unfoldable pub point_of : Float → Float → Float → Point3D
point_of x y z = record { x = x; y = y; z = z }

-- a point's three numbers in their order
abbrev pub point_of_numbers : List Float → Point3D
point_of_numbers s = point_of (get_or s 0 nan) (get_or s 1 nan) (get_or s 2 nan)

-- distance: "A gap or chord is the square root of the sum of the three squared differences"
unfoldable pub distance_of : Point3D → Point3D → Float
distance_of p q = sqrt_of ((q.x ⊖ p.x) ⊗ (q.x ⊖ p.x) ⊕ (q.y ⊖ p.y) ⊗ (q.y ⊖ p.y) ⊕ (q.z ⊖ p.z) ⊗ (q.z ⊖ p.z))

-- 0.2, the longest chord that the walk keeps and, but for the closing chord, the check passes (16)
abbrev pub longest_chord : Float
longest_chord = bits 0x3FC9_9999_9999_999A

-- Point3D + Vector3D of point.rs
unfoldable pub add_vector_of : Point3D → Vector3D → Point3D
add_vector_of p v = record { x = p.x ⊕ v.x; y = p.y ⊕ v.y; z = p.z ⊕ v.z }

-- Point3D - Point3D of point.rs
unfoldable pub difference_of : Point3D → Point3D → Vector3D
difference_of p q = record { x = p.x ⊖ q.x; y = p.y ⊖ q.y; z = p.z ⊖ q.z }

-- the three coordinates of a point under 1, 17 and 18
unfoldable pub point_fit : Point3D → Bool
point_fit p = number_fit p.x && (number_fit p.y && number_fit p.z)

-- a square, over whole numbers
abbrev pub square_of : ℕ → ℕ
square_of n = n * n

-- "the exact squared gap is that sum for the same two, unrounded": in units of 2 ^ -1074, squared
unfoldable pub exact_square : Point3D → Point3D → ℕ
exact_square p q = square_of (nat_abs (in_units p.x -ℤ in_units q.x)) + square_of (nat_abs (in_units p.y -ℤ in_units q.y)) + square_of (nat_abs (in_units p.z -ℤ in_units q.z))
