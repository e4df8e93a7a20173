-- One attempt at a stride: the body of the Rust's `while h >= tol.confusion` in `trace`. Definitions only.
use Rattle.std.specs.Prelude.{Bool, ◌&&◌, ℕ, Float, Some, None, Option}
use Rattle.loops.specs.Loop.{pick}
use Rattle.number.specs.Operators.{bits, ◌⊗◌, ◌⊘◌, ◌<?◌, ◌≤?◌}
use Rattle.number.specs.Helpers.{two, min_positive, max_of}
use Rattle.arctangent.specs.Arctangent.{atan2_of}
use Rattle.geometry.specs.declared.vector.Vector3D.{Vector3D}
use Rattle.geometry.specs.declared.point.Point3D.{Point3D}
use Rattle.geometry.specs.declared.tolerance.Tolerance.{Tolerance}
use Rattle.geometry.specs.Vector.{dot_of, cross_of, magnitude_of, scale_of}
use Rattle.geometry.specs.Point.{distance_of, longest_chord, add_vector_of, difference_of}
use Rattle.geometry.specs.Tolerance.{chord_multiple}
use Rattle.patch.specs.declared.patch.Patch.{Patch}
use Rattle.patch.specs.declared.patch.Parameters.{Parameters}
use Rattle.meeting.specs.declared.newton.Met.{Met}
use Rattle.meeting.specs.declared.newton.Met.TheVariants as met
use Rattle.marching.specs.declared.leaving.Exit.{Exit}
use Rattle.tangent.specs.Tangent.{tangent_of}
use Rattle.marching.specs.Predict.{predict_of}
use Rattle.marching.specs.Leaving.{leaving_of}
use Rattle.patch.specs.Located.{point_a}
use Rattle.meeting.specs.Newton.{meet_in_plane_of, land_of}
use Rattle.step.specs.declared.attempt.Walker.{Walker}
use Rattle.step.specs.declared.attempt.Stride.{Stride}
use Rattle.step.specs.declared.attempt.Stride.TheVariants.{Inner, Edge}

-- FREE_TURN, 0.05
abbrev pub free_turn : Float
free_turn = bits 0x3FA9_9999_9999_999A

-- CURVATURE_GROWTH, 4
abbrev pub curvature_growth : Float
curvature_growth = bits 0x4010_0000_0000_0000

-- "`trace` sets chord deviation to 1000 times confusion"
abbrev pub chord_deviation : Float → Float
chord_deviation confusion = chord_multiple ⊗ confusion

-- chord <= 2.0 * h; "A point, landed or not, is kept only if its computed chord from the last is at most 0.2"
unfoldable pub kept_of : Float → Float → Bool
kept_of chord h = chord ≤? two ⊗ h && chord ≤? longest_chord

-- ---- the Rust's "The step leaves a parameter domain: end on its edge."

-- (q - p).dot(t) >= 0.0, and the chord
unfoldable pub landing_kept : Walker → Float → Point3D → Bool
landing_kept w h q = bits 0 ≤? dot_of (difference_of q w.p) w.t && kept_of (distance_of q w.p) h

-- an edge point where `land` found one that may be kept
abbrev pub after_landing : Patch → Walker → Float → Met → Option Stride
after_landing a w h (met.At y) = pick (landing_kept w h (point_a a y)) (Some (Edge y (point_a a y))) None
after_landing a w h (met.Refused r) = None

-- land(a, b, guess, pin, bound, tol), and what follows
unfoldable pub landed_of : Patch → Patch → Tolerance → Walker → Float → Parameters → ℕ → Float → Option Stride
landed_of a b tol w h guess pin bound = after_landing a w h (land_of a b guess pin bound tol)

-- ---- an inner step

-- turn: t.cross(ty).magnitude().atan2(t.dot(ty))
unfoldable pub turn_of : Vector3D → Vector3D → Float
turn_of t ty = atan2_of (magnitude_of (cross_of t ty)) (dot_of t ty)

-- chord * turn <= 32.0 * chord_deviation
unfoldable pub near_curve : Float → Float → Float → Bool
near_curve confusion chord turned = chord ⊗ turned ≤? bits 0x4040_0000_0000_0000 ⊗ chord_deviation confusion

-- the Rust's `smooth`: turn <= FREE_TURN.max(CURVATURE_GROWTH * last_curvature * chord)
unfoldable pub smooth_of : Float → Float → Float → Bool
smooth_of curvature chord turned = turned ≤? max_of free_turn (curvature_growth ⊗ curvature ⊗ chord)

-- ty.dot(t) > 0.0, the chord, and the turn
unfoldable pub accepted_of : Float → Walker → Float → Vector3D → Float → Float → Bool
accepted_of confusion w h ty chord turned = bits 0 <? dot_of ty w.t && (kept_of chord h && (near_curve confusion chord turned && smooth_of w.curvature chord turned))

-- where the half stands next, the curvature being turn / chord.max(f64::MIN_POSITIVE)
abbrev pub next_walker : Parameters → Point3D → Vector3D → Float → Float → Walker
next_walker y q ty chord turned = record { x = y; p = q; t = ty; curvature = turned ⊘ max_of chord min_positive }

-- the stride with its length, where it is accepted
abbrev pub onward_at : Float → Walker → Float → Parameters → Point3D → Vector3D → Float → Float → Option Stride
onward_at confusion w h y q ty chord turned = pick (accepted_of confusion w h ty chord turned) (Some (Inner (next_walker y q ty chord turned) h)) None

-- the same with chord = q.distance(p), and the turn
unfoldable pub onward_of : Float → Walker → Float → Parameters → Point3D → Vector3D → Option Stride
onward_of confusion w h y q ty = onward_at confusion w h y q ty (distance_of q w.p) (turn_of w.t ty)

-- tangent(a, b, y, tol).map(|ty| ty * dir), and what follows
abbrev pub after_tangent : Patch → Float → Float → Walker → Float → Parameters → Option Vector3D → Option Stride
after_tangent a confusion dir w h y (Some d) = onward_of confusion w h y (point_a a y) (scale_of d dir)
after_tangent a confusion dir w h y None = None

-- the tangent at the meeting, where there is one
abbrev pub after_meeting : Patch → Patch → Tolerance → Float → Walker → Float → Met → Option Stride
after_meeting a b tol dir w h (met.At y) = after_tangent a tol.confusion dir w h y (tangent_of a b y tol)
after_meeting a b tol dir w h (met.Refused r) = None

-- the Rust's "correct onto both surfaces in the plane normal to it": meet(a, b, guess, Some((p + t * h, t)), tol)
unfoldable pub inner_of : Patch → Patch → Tolerance → Float → Walker → Float → Parameters → Option Stride
inner_of a b tol dir w h guess = after_meeting a b tol dir w h (meet_in_plane_of a b guess (add_vector_of w.p (scale_of w.t h)) w.t tol)

-- ---- the whole attempt

-- if let Some((pin, bound)) = leaving(a, b, x, guess): land on the edge, else meet
abbrev pub towards : Patch → Patch → Tolerance → Float → Walker → Float → Parameters → Option Exit → Option Stride
towards a b tol dir w h guess None = inner_of a b tol dir w h guess
towards a b tol dir w h guess (Some e) = landed_of a b tol w h guess e.index e.bound

-- guess = predict(a, b, x, t * h)
abbrev pub predicted : Patch → Patch → Walker → Float → Parameters
predicted a b w h = predict_of a b w.x (scale_of w.t h)

-- an attempt from the walker w with the stride h; dir is 1 forward and -1 backward
unfoldable pub attempt_of : Patch → Patch → Tolerance → Float → Walker → Float → Option Stride
attempt_of a b tol dir w h = towards a b tol dir w h (predicted a b w h) (leaving_of a b w.x (predicted a b w h))
