-- `tangent` of marching.rs. Definitions only.
use Rattle.std.specs.Prelude.{Float, Option, Some, None}
use Rattle.loops.specs.Loop.{pick}
use Rattle.number.specs.Operators.{◌⊗◌, ◌⊘◌, ◌≤?◌}
use Rattle.number.specs.Helpers.{one, min_positive, max_of}
use Rattle.geometry.specs.declared.vector.Vector3D.{Vector3D}
use Rattle.geometry.specs.declared.tolerance.Tolerance.{Tolerance}
use Rattle.geometry.specs.Vector.{cross_of, magnitude_of, scale_of}
use Rattle.patch.specs.declared.patch.Patch.{Patch}
use Rattle.patch.specs.declared.patch.Parameters.{Parameters}
use Rattle.analytic.specs.Surface.{eval_d1}

-- "the crosses being vector products of the derivatives"
unfoldable pub normal_of : Patch → Float → Float → Vector3D
normal_of p u v = cross_of (eval_d1 p.surface u v).u (eval_d1 p.surface u v).v

-- "`tangent` gives up when |na × nb| is at most angular times max(|na||nb|, smallest normal)"; else the product times 1 / |na × nb|
unfoldable pub unit_cross : Vector3D → Vector3D → Float → Option Vector3D
unit_cross na nb angular =
    pick (magnitude_of (cross_of na nb) ≤? angular ⊗ max_of (magnitude_of na ⊗ magnitude_of nb) min_positive)
    None
    (Some (scale_of (cross_of na nb) (one ⊘ magnitude_of (cross_of na nb))))

-- `tangent` at x
unfoldable pub tangent_of : Patch → Patch → Parameters → Tolerance → Option Vector3D
tangent_of a b x tol = unit_cross (normal_of a x.u1 x.v1) (normal_of b x.u2 x.v2) tol.angular
