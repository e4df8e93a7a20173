-- Fitness of a patch (refusals 1 to 4), and the windows that apply. Definitions only.
use Rattle.std.specs.Prelude.{Bool, true, false, ◌&&◌, List, [], ◌∷◌, Float}
use Rattle.loops.specs.Loop.{pick}
use Rattle.number.specs.Operators.{bits, ◌<?◌, ◌≤?◌}
use Rattle.number.specs.Helpers.{abs_of, clamp_of, number_fit}
use Rattle.refusal.specs.declared.Refusal.TheVariants as refusal
use Rattle.refusal.specs.Verdict.{Verdict}
use Rattle.refusal.specs.Verdict.{asked, first_refusal}
use Rattle.geometry.specs.declared.vector.Vector3D.{Vector3D}
use Rattle.geometry.specs.declared.frame.Frame3D.{Frame3D}
use Rattle.geometry.specs.Point.{point_fit}
use Rattle.analytic.specs.declared.surface.Surface.{Surface}
use Rattle.analytic.specs.declared.surface.Surface.TheVariants.{Plane, Cylinder, Cone, Sphere, Torus}
use Rattle.patch.specs.declared.patch.Window.{Window}
use Rattle.patch.specs.declared.patch.Patch.{Patch}
use Rattle.patch.specs.declared.patch.Parameters.{Parameters}

-- ---- 1: "a number of the frame or a size is not finite, or above 2^20 in magnitude"

-- the three numbers of a direction
unfoldable pub vector_fit : Vector3D → Bool
vector_fit d = number_fit d.x && (number_fit d.y && number_fit d.z)

-- "a number of the frame": origin and three directions
unfoldable pub frame_fit : Frame3D → Bool
frame_fit f = point_fit f.origin && (vector_fit f.x && (vector_fit f.y && vector_fit f.z))

-- a frame with one size: cylinder, sphere
unfoldable pub one_fits : Frame3D → Float → Bool
one_fits f a = frame_fit f && number_fit a

-- a frame with two sizes: cone, torus
unfoldable pub both_fit : Frame3D → Float → Float → Bool
both_fit f a b = frame_fit f && (number_fit a && number_fit b)

-- what 1 lets through, for each kind
unfoldable pub numbers_fit : Surface → Bool
numbers_fit (Plane f) = frame_fit f
numbers_fit (Cylinder f r) = one_fits f r
numbers_fit (Cone f r a) = both_fit f r a
numbers_fit (Sphere f r) = one_fits f r
numbers_fit (Torus f maj min) = both_fit f maj min

-- ---- 2: "a wrong size"

-- two sizes above 0
unfoldable pub both_positive : Float → Float → Bool
both_positive a b = bits 0 <? a && bits 0 <? b

-- "1.5"
abbrev pub semi_angle_limit : Float
semi_angle_limit = bits 0x3FF8_0000_0000_0000

-- "Cone reference radius: 0 or more; its semi-angle: magnitude below 1.5"
unfoldable pub cone_fits : Float → Float → Bool
cone_fits r a = bits 0 ≤? r && abs_of a <? semi_angle_limit

-- what 2 lets through, for each kind: "Cylinder and sphere radius, both torus radii: above 0"
unfoldable pub sizes_fit : Surface → Bool
sizes_fit (Plane f) = true
sizes_fit (Cylinder f r) = bits 0 <? r
sizes_fit (Cone f r a) = cone_fits r a
sizes_fit (Sphere f r) = bits 0 <? r
sizes_fit (Torus f maj min) = both_positive maj min

-- ---- what 3 lets through: "a window number is NaN, or a low end lies above its high end. Infinite and equal ends are allowed."
unfoldable pub window_fit : Window → Bool
window_fit w = w.low ≤? w.high

-- ---- 4: "a turn mark on a direction that is no angle"

-- "Angles are u of all but the plane"
unfoldable pub u_is_angle : Surface → Bool
u_is_angle (Plane f) = false
u_is_angle (Cylinder f r) = true
u_is_angle (Cone f r a) = true
u_is_angle (Sphere f r) = true
u_is_angle (Torus f maj min) = true

-- "and v of torus"
unfoldable pub v_is_angle : Surface → Bool
v_is_angle (Plane f) = false
v_is_angle (Cylinder f r) = false
v_is_angle (Cone f r a) = false
v_is_angle (Sphere f r) = false
v_is_angle (Torus f maj min) = true

-- a mark stands only on an angle
unfoldable pub mark_fit : Bool → Bool → Bool
mark_fit turn angle = pick turn angle true

-- ---- "1 to 4", in that order
abbrev pub fitness_tests : Patch → List Verdict
fitness_tests p =
    asked (numbers_fit p.surface) refusal.Number
    ∷ asked (sizes_fit p.surface) refusal.Size
    ∷ asked (window_fit p.u) refusal.Window
    ∷ asked (window_fit p.v) refusal.Window
    ∷ asked (mark_fit p.u.turn (u_is_angle p.surface)) refusal.TurnMark
    ∷ asked (mark_fit p.v.turn (v_is_angle p.surface)) refusal.TurnMark
    ∷ []

-- the fitness of a patch
unfoldable pub fitness_of : Patch → Verdict
fitness_of p = first_refusal (fitness_tests p)

-- ---- the windows that apply: "its window is tested by 3, then not applied"

-- "inside its window where that has no turn mark"; "NaN is outside"
unfoldable pub window_holds : Window → Float → Bool
window_holds w x = pick w.turn true (w.low ≤? x && x ≤? w.high)

-- "every parameter lie inside its window where that has no turn mark"
unfoldable pub inside_of : Patch → Patch → Parameters → Bool
inside_of a b x = window_holds a.u x.u1 && (window_holds a.v x.v1 && (window_holds b.u x.u2 && window_holds b.v x.v2))

-- "clamped to windows without turn mark"
unfoldable pub bounded_of : Window → Float → Float
bounded_of w x = pick w.turn x (clamp_of x w.low w.high)

-- the Rust's within_bounds, of the guess and of every trial: "clamped to windows without turn mark"
unfoldable pub within_bounds : Patch → Patch → Parameters → Parameters
within_bounds a b x = record { u1 = bounded_of a.u x.u1; v1 = bounded_of a.v x.v1; u2 = bounded_of b.u x.u2; v2 = bounded_of b.v x.v2 }
