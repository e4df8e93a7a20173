-- A number times a vector is the vector times the number, bit for bit: `scale` serves for both.
use mathlib.Core.Path.{◌≡◌}
use lib.Ieee.{Float}
use Rattle.number.proofs.Symmetry.{mul_swap}
use Rattle.geometry.specs.declared.vector.Vector3D.{Vector3D}
use Rattle.geometry.specs.Vector.{scale_of, times_of}

pub times_scale : (s : Float) (a : Vector3D) → times_of s a ≡ scale_of a s
unfolding times_of scale_of
times_scale s a = rw (mul_swap s a.x, mul_swap s a.y, mul_swap s a.z)
