-- Vectors, in the order of evaluation of vector.rs. Definitions only.
use Rattle.std.specs.Prelude.{List, get_or, Float}
use Rattle.std.specs.Float.{nan}
use Rattle.std.specs.Float.Ieee.{neg}
use Rattle.number.specs.Operators.{bits, ◌⊕◌, ◌⊖◌, ◌⊗◌}
use Rattle.sqrt.specs.Sqrt.{sqrt_of}
use Rattle.geometry.specs.declared.vector.Vector3D.{Vector3D}

-- Vector3D::new
unfoldable pub vector_of : Float → Float → Float → Vector3D
vector_of x y z = record { x = x; y = y; z = z }

-- a vector's three numbers in their order
abbrev pub vector_of_numbers : List Float → Vector3D
vector_of_numbers s = vector_of (get_or s 0 nan) (get_or s 1 nan) (get_or s 2 nan)

-- Vector3D::ZERO
unfoldable pub zero_vector : Vector3D
unfolding vector_of
zero_vector = vector_of (bits 0) (bits 0) (bits 0)

-- dot: self.x * other.x + self.y * other.y + self.z * other.z
unfoldable pub dot_of : Vector3D → Vector3D → Float
dot_of a b = a.x ⊗ b.x ⊕ a.y ⊗ b.y ⊕ a.z ⊗ b.z

-- cross, of vector.rs: y * z - z * y, z * x - x * z, x * y - y * x
unfoldable pub cross_of : Vector3D → Vector3D → Vector3D
cross_of a b = record { x = a.y ⊗ b.z ⊖ a.z ⊗ b.y; y = a.z ⊗ b.x ⊖ a.x ⊗ b.z; z = a.x ⊗ b.y ⊖ a.y ⊗ b.x }

-- square_magnitude: self.x * self.x + self.y * self.y + self.z * self.z
unfoldable pub square_magnitude_of : Vector3D → Float
square_magnitude_of a = a.x ⊗ a.x ⊕ a.y ⊗ a.y ⊕ a.z ⊗ a.z

-- magnitude: the square root of square_magnitude
unfoldable pub magnitude_of : Vector3D → Float
unfolding square_magnitude_of
magnitude_of a = sqrt_of (square_magnitude_of a)

-- Vector3D + Vector3D
unfoldable pub add_of : Vector3D → Vector3D → Vector3D
add_of a b = record { x = a.x ⊕ b.x; y = a.y ⊕ b.y; z = a.z ⊕ b.z }

-- -Vector3D
unfoldable pub neg_of : Vector3D → Vector3D
neg_of a = record { x = neg a.x; y = neg a.y; z = neg a.z }

-- Vector3D * f64
unfoldable pub scale_of : Vector3D → Float → Vector3D
scale_of a s = record { x = a.x ⊗ s; y = a.y ⊗ s; z = a.z ⊗ s }

-- f64 * Vector3D
unfoldable pub times_of : Float → Vector3D → Vector3D
times_of s a = record { x = s ⊗ a.x; y = s ⊗ a.y; z = s ⊗ a.z }
