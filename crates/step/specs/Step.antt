-- One step of a half. Definitions only.
use Rattle.std.specs.Prelude.{Bool, ◌&&◌, ℕ, leb, Float, Option, Some, None}
use Rattle.loops.specs.Loop.{pick}
use Rattle.number.specs.Operators.{bits, ◌⊗◌, ◌<?◌}
use Rattle.number.specs.Helpers.{tenth, max_of}
use Rattle.geometry.specs.declared.point.Point3D.{Point3D}
use Rattle.geometry.specs.declared.tolerance.Tolerance.{Tolerance}
use Rattle.geometry.specs.Point.{distance_of}
use Rattle.patch.specs.declared.patch.Patch.{Patch}
use Rattle.patch.specs.declared.patch.Parameters.{Parameters}
use Rattle.step.specs.declared.attempt.Walker.{Walker}
use Rattle.step.specs.declared.attempt.Stride.{Stride}
use Rattle.step.specs.declared.attempt.Stride.TheVariants as stride
use Rattle.step.specs.Shorten.{stride_of}
use Rattle.step.specs.Closing.{closes_of, next_stride}
use Rattle.step.specs.declared.step.Stepped.{Stepped}
use Rattle.step.specs.declared.step.Stepped.TheVariants.{Onward, Closed, Edge, Ended}

-- "max(confusion, 1e-7)"
abbrev pub least_edge : Float → Float
least_edge confusion = max_of confusion (bits 0x3E7A_D7F2_9ABC_AF48)

-- "An edge point is added only if farther than max(confusion, 1e-7) from the last."
unfoldable pub edge_step : Float → Point3D → Parameters → Point3D → Stepped
edge_step confusion p y q = pick (least_edge confusion <? distance_of q p) (Edge y q) Ended

-- "If the last point lies nearer the start than 0.1 of the stride it is removed first."
abbrev pub near_start : Point3D → Point3D → Float → Bool
near_start start p h = distance_of p start <? tenth ⊗ h

-- "Closing is tested on inner steps only, when the half already holds 3 points."
unfoldable pub came_round : Float → Point3D → ℕ → Point3D → Point3D → Bool
came_round confusion start held p q = leb 3 held && closes_of confusion start p q

-- after an inner step: closed on the start, or onward with the next stride
unfoldable pub inner_step : Float → Point3D → ℕ → Point3D → Walker → Float → Stepped
inner_step confusion start held p next h =
    pick (came_round confusion start held p next.p) (Closed (near_start start p h)) (Onward next (next_stride confusion h next.curvature))

-- what a stride says
abbrev pub after_stride : Float → Point3D → ℕ → Point3D → Option Stride → Stepped
after_stride confusion start held p (Some (stride.Inner next length)) = inner_step confusion start held p next length
after_stride confusion start held p (Some (stride.Edge y q)) = edge_step confusion p y q
after_stride confusion start held p None = Ended

-- what one iteration of the Rust's `for _ in 0..2000` comes to; the points are kept in `half_step`
unfoldable pub step_of : Patch → Patch → Tolerance → Float → Point3D → ℕ → Walker → Float → Stepped
step_of a b tol dir start held w h = after_stride tol.confusion start held w.p (stride_of a b tol dir w h)
