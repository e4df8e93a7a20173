-- Points and first derivatives of the five kinds ("`*_d0` and `*_derivative` of analytic.rs"), in the Rust's order of evaluation. Definitions only.
use Rattle.std.specs.Prelude.{Float}
use Rattle.std.specs.Float.Ieee.{neg}
use Rattle.number.specs.Operators.{bits, ◌⊕◌, ◌⊗◌}
use Rattle.fdlibm.specs.Sine.{sin_of, cos_of}
use Rattle.geometry.specs.declared.point.Point3D.{Point3D}
use Rattle.geometry.specs.declared.vector.Vector3D.{Vector3D}
use Rattle.geometry.specs.declared.frame.Frame3D.{Frame3D}
use Rattle.geometry.specs.Vector.{add_of, times_of}
use Rattle.geometry.specs.Frame.{point_at_of}
use Rattle.analytic.specs.declared.analytic.Derivatives.{Derivatives}
use Rattle.analytic.specs.declared.surface.Surface.{Surface}
use Rattle.analytic.specs.declared.surface.Surface.TheVariants.{Plane, Cylinder, Cone, Sphere, Torus}

-- the cone's radius at v: ref_r + v * sin(semi_angle)
abbrev pub cone_radius : Float → Float → Float → Float
cone_radius r a v = r ⊕ v ⊗ sin_of a

-- the torus's radius at v: maj + min * cos(v)
abbrev pub torus_radius : Float → Float → Float → Float
torus_radius maj min v = maj ⊕ min ⊗ cos_of v

-- ---- points: "A surface is one of five kinds, each carrying its frame and its sizes"

-- its frame
abbrev pub frame_of : Surface → Frame3D
frame_of (Plane f) = f
frame_of (Cylinder f r) = f
frame_of (Cone f r a) = f
frame_of (Sphere f r) = f
frame_of (Torus f maj min) = f

-- three numbers along the frame's directions
abbrev local : Float → Float → Float → Point3D
local a b c = record { x = a; y = b; z = c }

-- `*_d0`: the point in its frame
abbrev pub local_of : Surface → Float → Float → Point3D
local_of (Plane f) u v = local u v (bits 0)
local_of (Cylinder f r) u v = local (r ⊗ cos_of u) (r ⊗ sin_of u) v
local_of (Cone f r a) u v = local (cone_radius r a v ⊗ cos_of u) (cone_radius r a v ⊗ sin_of u) (v ⊗ cos_of a)
local_of (Sphere f r) u v = local (r ⊗ cos_of v ⊗ cos_of u) (r ⊗ cos_of v ⊗ sin_of u) (r ⊗ sin_of v)
local_of (Torus f maj min) u v = local (torus_radius maj min v ⊗ cos_of u) (torus_radius maj min v ⊗ sin_of u) (min ⊗ sin_of v)

-- the point at (u, v): every kind's is `point_at` of its frame
unfoldable pub eval_point : Surface → Float → Float → Point3D
eval_point s u v = point_at_of (frame_of s) (local_of s u v).x (local_of s u v).y (local_of s u v).z

-- ---- first derivatives: `*_derivative` at (1, 0), then at (0, 1)

-- a number times one direction and another times a second, added
unfoldable pub combination_of : Float → Vector3D → Float → Vector3D → Vector3D
combination_of a p b q = add_of (times_of a p) (times_of b q)

-- the two together
abbrev derivatives : Vector3D → Vector3D → Derivatives
derivatives u v = record { u = u; v = v }

-- plane: x, and y
-- cylinder: -a2 * x + a1 * y, and z
-- cone: -r * su * x + r * cu * y, and sin(semi-angle) * (cu * x + su * y) + cos(semi-angle) * z
-- sphere: rcv * (-su * x + cu * y), and -r * sv * (cu * x + su * y) + rcv * z
-- torus: r * (-su * x + cu * y), and -min * sv * (cu * x + su * y) + min * cv * z
unfoldable pub eval_d1 : Surface → Float → Float → Derivatives
eval_d1 (Plane f) u v = derivatives f.x f.y
eval_d1 (Cylinder f r) u v = derivatives (combination_of (neg (r ⊗ sin_of u)) f.x (r ⊗ cos_of u) f.y) f.z
eval_d1 (Cone f r a) u v =
    derivatives
    (combination_of (neg (cone_radius r a v) ⊗ sin_of u) f.x (cone_radius r a v ⊗ cos_of u) f.y)
    (combination_of (sin_of a) (combination_of (cos_of u) f.x (sin_of u) f.y) (cos_of a) f.z)
eval_d1 (Sphere f r) u v =
    derivatives
    (times_of (r ⊗ cos_of v) (combination_of (neg (sin_of u)) f.x (cos_of u) f.y))
    (combination_of (neg r ⊗ sin_of v) (combination_of (cos_of u) f.x (sin_of u) f.y) (r ⊗ cos_of v) f.z)
eval_d1 (Torus f maj min) u v =
    derivatives
    (times_of (torus_radius maj min v) (combination_of (neg (sin_of u)) f.x (cos_of u) f.y))
    (combination_of (neg min ⊗ sin_of v) (combination_of (cos_of u) f.x (sin_of u) f.y) (min ⊗ cos_of v) f.z)
