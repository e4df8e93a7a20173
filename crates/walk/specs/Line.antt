-- One half of the walk, and the line that both halves make. Definitions only.
use Rattle.std.specs.Prelude.{Bool, true, false, List, [], ◌∷◌, reverse, ◌++◌, ◌≡◌, ℕ, ◌*◌, ◌≤◌, Float, length, take}
use Rattle.std.specs.Float.Ieee.{neg}
use Rattle.loops.specs.Loop.{pick, Flow, on, out, searched}
use Rattle.number.specs.Operators.{bits}
use Rattle.groups.specs.declared.traced.Closing.{Closing}
use Rattle.groups.specs.declared.traced.Closing.TheVariants.{Open, Forward, Backward}
use Rattle.groups.specs.Groups.{width}
use Rattle.groups.specs.declared.row.Row.{Row}
use Rattle.geometry.specs.declared.point.Point3D.{Point3D}
use Rattle.geometry.specs.declared.vector.Vector3D.{Vector3D}
use Rattle.geometry.specs.declared.tolerance.Tolerance.{Tolerance}
use Rattle.geometry.specs.Vector.{scale_of}
use Rattle.patch.specs.declared.patch.Patch.{Patch}
use Rattle.patch.specs.declared.patch.Parameters.{Parameters}
use Rattle.patch.specs.Located.{point_a}
use Rattle.step.specs.declared.attempt.Walker.{Walker}
use Rattle.step.specs.Closing.{first_stride}
use Rattle.step.specs.Step.{step_of}
use Rattle.step.specs.declared.step.Stepped.{Stepped}
use Rattle.step.specs.declared.step.Stepped.TheVariants.{Onward, Closed, Edge, Ended}
use Rattle.number.specs.Helpers.{one}
use Rattle.walk.specs.Lent.{rows_of}

-- a half: the parameters of its points, the last one first, and whether it ended on the start
pub record Half : Type 0 where
  pub points : List Parameters
  pub closed : Bool

-- where a half stands: the walker, the stride to try next, and the points so far, the last one first
pub record Halfway : Type 0 where
  pub w : Walker
  pub h : Float
  pub points : List Parameters

-- let (mut x, mut p, mut t) = (seed, start, t0 * dir); last_curvature = 0.0
unfoldable pub first_walker : Parameters → Point3D → Vector3D → Float → Walker
first_walker x p t dir = record { x = x; p = p; t = scale_of t dir; curvature = bits 0 }

-- the points without the last one
abbrev pub without_last : List Parameters → List Parameters
without_last [] = []
without_last (x ∷ xs) = xs

-- what a step says. "If the last point lies nearer the start than 0.1 of the stride it is removed first"; the closing point is the start,
-- with its own parameters x.
abbrev pub after_step : Parameters → List Parameters → Stepped → Flow Halfway Half
after_step x points (Onward w h) = on (record { w = w; h = h; points = w.x ∷ points })
after_step x points (Closed removed) = out (record { points = x ∷ pick removed (without_last points) points; closed = true })
after_step x points (Edge y q) = out (record { points = y ∷ points; closed = false })
after_step x points Ended = out (record { points = points; closed = false })

-- one iteration of the loop over the steps
abbrev pub half_body : Patch → Patch → Tolerance → Float → Parameters → ℕ → Halfway → Flow Halfway Half
half_body a b tol dir x i s = after_step x s.points (step_of a b tol dir (point_a a x) (length s.points) s.w s.h)

-- the steps are spent
abbrev pub half_spent : Halfway → Half
half_spent s = record { points = s.points; closed = false }

-- the steps from the i-th on
abbrev pub half_from : Patch → Patch → Tolerance → Float → Parameters → ℕ → ℕ → Halfway → Half
half_from a b tol dir x n i s = searched (half_body a b tol dir x) half_spent i n (on s)

-- at most n steps from the start with parameters x and tangent t; dir is 1 forward and -1 backward
unfoldable pub half_of : Patch → Patch → Tolerance → Float → Parameters → Vector3D → ℕ → Half
half_of a b tol dir x t n = half_from a b tol dir x n 0 (record { w = first_walker x (point_a a x) t dir; h = first_stride tol.confusion; points = [] })

-- the points in the order walked
abbrev pub in_order : Half → List Parameters
in_order half = reverse half.points

-- a half of at most n points as it is written: its count, how it ended, and its points at the front of a list, in the order walked
pub record Written (row : Parameters → Row) (n : ℕ) (half : Half) (l : List Float) (count : ℕ) (closed : Bool) : Type 0 where
  pub size : count ≡ length half.points
  pub ends : closed ≡ half.closed
  pub few : count ≤ n
  pub rows : take (width * count) l ≡ rows_of row (in_order half)

-- a line: the parameters of its points, the start's index and the closing
pub record Line : Type 0 where
  pub points : List Parameters
  pub start : ℕ
  pub closing : Closing

-- the direction of the forward half: the Rust's `1.0`
abbrev pub forward : Float
forward = one

-- and of the backward half: `-1.0`
abbrev pub backward : Float
backward = neg forward

-- "0 open, 1 closed forward, 2 closed backward": a half closed forward is the whole line
abbrev pub closed_forward : Parameters → Half → Line
closed_forward x f = record { points = x ∷ in_order f; start = 0; closing = Forward }

-- the backward half last point first, the start, the forward half
abbrev pub both_halves : Parameters → Half → Half → Line
both_halves x f b = record { points = b.points ++ (x ∷ in_order f); start = length b.points; closing = pick b.closed Backward Open }

-- "runs forward, then backward unless closed"
unfoldable pub line_of : Patch → Patch → Tolerance → Parameters → Vector3D → ℕ → Line
line_of a b tol x t n =
    pick (half_of a b tol forward x t n).closed (closed_forward x (half_of a b tol forward x t n))
    (both_halves x (half_of a b tol forward x t n) (half_of a b tol backward x t n))
