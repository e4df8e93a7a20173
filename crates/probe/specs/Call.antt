-- What the numbers that a probe is given mean, and how an answer is written. Definitions only.
use Rattle.std.specs.Prelude.{List, ℕ, ◌+◌, get_or, set, Float}
use Rattle.std.specs.Float.{nan}
use Rattle.loops.specs.Loop.{pick}
use Rattle.number.specs.Operators.{bits, ◌<?◌}
use Rattle.geometry.specs.declared.point.Point3D.{Point3D}
use Rattle.geometry.specs.declared.vector.Vector3D.{Vector3D}
use Rattle.geometry.specs.declared.frame.Frame3D.{Frame3D}
use Rattle.geometry.specs.Point.{point_of}
use Rattle.geometry.specs.Vector.{vector_of}
use Rattle.analytic.specs.declared.surface.Surface.{Surface}
use Rattle.analytic.specs.declared.surface.Surface.TheVariants.{Plane, Cylinder, Cone, Sphere, Torus}
use Rattle.patch.specs.declared.patch.Window.{Window}
use Rattle.patch.specs.declared.patch.Patch.{Patch}
use Rattle.patch.specs.declared.patch.Parameters.{Parameters}
use Rattle.probe.specs.declared.call.Call.{Call}

-- ---- what the numbers mean

-- a point: three numbers from at on
unfoldable pub point_from : List Float → ℕ → Point3D
point_from s at = point_of (get_or s at nan) (get_or s (at + 1) nan) (get_or s (at + 2) nan)

-- a vector, likewise
unfoldable pub vector_from : List Float → ℕ → Vector3D
vector_from s at = vector_of (get_or s at nan) (get_or s (at + 1) nan) (get_or s (at + 2) nan)

-- origin, x, y and z direction
unfoldable pub frame_from : List Float → ℕ → Frame3D
frame_from s at = record { origin = point_from s at; x = vector_from s (at + 3); y = vector_from s (at + 6); z = vector_from s (at + 9) }

-- below 1 plane, below 2 cylinder, below 3 cone, below 4 sphere, else torus
unfoldable pub surface_from : Float → Frame3D → Float → Float → Surface
surface_from kind f a b =
    pick (kind <? bits 0x3FF0_0000_0000_0000) (Plane f)
    (pick (kind <? bits 0x4000_0000_0000_0000) (Cylinder f a)
    (pick (kind <? bits 0x4008_0000_0000_0000) (Cone f a b)
    (pick (kind <? bits 0x4010_0000_0000_0000) (Sphere f a) (Torus f a b))))

-- low, high, and a mark above 0
unfoldable pub window_from : List Float → ℕ → Window
window_from s at = record { low = get_or s at nan; high = get_or s (at + 1) nan; turn = bits 0 <? get_or s (at + 2) nan }

-- kind, frame, two sizes, windows of u and v
unfoldable pub patch_from : List Float → ℕ → Patch
patch_from s at = record {
  surface = surface_from (get_or s at nan) (frame_from s (at + 1)) (get_or s (at + 13) nan) (get_or s (at + 14) nan);
  u = window_from s (at + 15);
  v = window_from s (at + 18);
}

-- u and v on A, u and v on B
unfoldable pub parameters_from : List Float → ℕ → Parameters
parameters_from s at = record { u1 = get_or s at nan; v1 = get_or s (at + 1) nan; u2 = get_or s (at + 2) nan; v2 = get_or s (at + 3) nan }

-- two patches, confusion, angular, the parameters
unfoldable pub call_from : List Float → Call
call_from s = record {
  a = patch_from s 0;
  b = patch_from s 21;
  x = parameters_from s 44;
  tol = record { confusion = get_or s 42 nan; angular = get_or s 43 nan; parametric = bits 0 };
}

-- ---- what is written

-- three numbers, from at on
unfoldable pub put_three : List Float → ℕ → Float → Float → Float → List Float
put_three t at x y z = set (set (set t at x) (at + 1) y) (at + 2) z

-- four parameters at the front
unfoldable pub put_parameters : List Float → Parameters → List Float
put_parameters t x = set (set (set (set t 0 x.u1) 1 x.v1) 2 x.u2) 3 x.v2
