-- The rule of 02, A6, without code: what each reason says, and which is named. Definitions only.
use Rattle.std.specs.Prelude.{◌≡◌, true, false, List, ℕ, ◌+◌, ◌≤◌, ◌<◌, Float}
use Rattle.boxes.specs.declared.boxtree.Aabb.{Aabb}
use Rattle.boxes.specs.declared.explain.Reason.{Reason}
use Rattle.boxes.specs.declared.explain.Reason.TheVariants.{Segment, WholeApart, RunsApart, NoneMet}
use Rattle.boxes.specs.Bounds.{boxes_apart, bounds_of}
use Rattle.boxes.specs.Counts.{run_bounds, Counts}
use Rattle.boxes.specs.Crosses.{runs_of, segment_meets}
use Rattle.boxes.specs.Explain.{apart_at, run_near, near_segments}

-- what a reason says of the trace and the grown box
abbrev pub Holds : List Float → ℕ → Aabb → Reason → Type 0
-- "Yes: the first segment that counts"
Holds l count grown (Segment i) = Counts l count grown i × ((j : ℕ) → j < i → Counts l count grown j → ⊥)
-- "the whole trace's box is apart, with the first axis on which it is"
Holds l count grown (WholeApart axis) = (axis < 3) × (apart_at (bounds_of l count) grown axis ≡ true) × ((k : ℕ) → k < axis → apart_at (bounds_of l count) grown k ≡ false)
-- "all runs are apart"
Holds l count grown RunsApart = (r : ℕ) → r < runs_of count → boxes_apart (run_bounds l count r) grown ≡ true
-- "the count of segments in runs not apart, none of which met the box"
Holds l count grown (NoneMet n) = (n ≡ near_segments l count grown) × ((i : ℕ) → i + 1 < count → run_near l count grown i ≡ true → segment_meets l grown i ≡ false)

-- the order in which 02 names them
abbrev pub place_of : Reason → ℕ
place_of (Segment i) = 0
place_of (WholeApart axis) = 1
place_of RunsApart = 2
place_of (NoneMet n) = 3

-- "Where several of these hold, the first named is the reason"
pub record Explains (l : List Float) (count : ℕ) (grown : Aabb) (q : Reason) : Type 0 where
  pub holds : Holds l count grown q
  pub first : (other : Reason) → Holds l count grown other → place_of q ≤ place_of other
