-- The words of the readable theorem on the crossing: which segment counts, and what nothing refuses. Definitions only.
use Rattle.std.specs.Prelude.{◌≡◌, true, false, List, ℕ, ◌+◌, ◌*◌, ◌/◌, ◌≤◌, ◌<◌, length, Float}
use Rattle.groups.specs.Groups.{width, least_points, most_points, from_group}
use Rattle.groups.specs.Row.{point_at}
use Rattle.geometry.specs.Tolerance.{tolerance_fit}
use Rattle.geometry.specs.declared.tolerance.Tolerance.{Tolerance}
use Rattle.geometry.specs.Point.{point_fit}
use Rattle.boxes.specs.declared.boxtree.Aabb.{Aabb}
use Rattle.boxes.specs.Bounds.{boxes_apart, bounds_of}
use Rattle.boxes.specs.Segment.{segment_meets_box}
use Rattle.boxes.specs.Crosses.{run_length, run_start, run_points}
use Rattle.boxes.specs.Crossing.{box_fit}

-- the box of run r: of its points, from its first on
abbrev pub run_bounds : List Float → ℕ → ℕ → Aabb
run_bounds l count r = bounds_of (from_group width (run_start r) l) (run_points count (run_start r))

-- segment i of the trace counts, the box being grown already: "only if the whole trace's box and its run's box are not apart from the
-- grown box and `segment_meets_box` holds"
pub record Counts (l : List Float) (count : ℕ) (grown : Aabb) (i : ℕ) : Type 0 where
  pub segment : i + 1 < count
  pub whole : boxes_apart (bounds_of l count) grown ≡ false
  pub run : boxes_apart (run_bounds l count (i / run_length)) grown ≡ false
  pub meets : segment_meets_box (point_at l i) (point_at l (i + 1)) grown ≡ true

-- none of 5, 8, 12, 18, 17 refuses
pub record Fit (tol : Tolerance) (l : List Float) (count : ℕ) (b : Aabb) : Type 0 where
  pub tolerance : tolerance_fit tol ≡ true
  pub lent : width * count ≤ length l
  pub least : least_points ≤ count
  pub most : count ≤ most_points
  pub coordinates : (i : ℕ) → i < count → point_fit (point_at l i) ≡ true
  pub corners : box_fit b ≡ true
