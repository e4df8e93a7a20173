-- What holds of every point that the walk keeps. Definitions only.
use Rattle.std.specs.Prelude.{ℕ, T, Float}
use Rattle.number.specs.Operators.{◌≤?◌}
use Rattle.geometry.specs.Point.{distance_of}
use Rattle.patch.specs.declared.patch.Patch.{Patch}
use Rattle.patch.specs.declared.patch.Parameters.{Parameters}
use Rattle.patch.specs.declared.patch.Window.{Window}
use Rattle.patch.specs.Patch.{inside_of}
use Rattle.meeting.specs.Correction.{of_four}
use Rattle.patch.specs.Located.{point_a, point_b}

-- every parameter inside its window where that has no turn mark, and the computed gap of A's and B's points at most confusion
pub record IsIntersection (a b : Patch) (confusion : Float) (x : Parameters) : Type 0 where
  pub inside : T (inside_of a b x)
  pub gap : T (distance_of (point_a a x) (point_b b x) ≤? confusion)

-- the window of the k-th of the four parameters; an index above 3 counts as 3
abbrev pub window_of : Patch → Patch → ℕ → Window
window_of a b k = of_four k a.u a.v b.u b.v
