-- `crosses` of marching.rs for one trace. Definitions only.
use Rattle.std.specs.Prelude.{Bool, false, List, ℕ, ◌+◌, ◌-◌, ◌*◌, ◌/◌, ltb, take, Float, Option}
use Rattle.loops.specs.Loop.{pick}
use Rattle.loops.specs.Any.{any_in}
use Rattle.loops.specs.First.{first_in}
use Rattle.number.specs.Operators.{bits, ◌⊕◌, ◌⊖◌, ◌⊗◌}
use Rattle.groups.specs.Groups.{width, from_group}
use Rattle.groups.specs.Row.{point_at}
use Rattle.geometry.specs.Point.{point_of}
use Rattle.geometry.specs.Tolerance.{chord_multiple}
use Rattle.boxes.specs.declared.boxtree.Aabb.{Aabb}
use Rattle.boxes.specs.Bounds.{boxes_apart, bounds_of}
use Rattle.boxes.specs.Segment.{segment_meets_box}

-- "8000 times confusion": 8.0 * CHORD_DEVIATION * confusion
abbrev pub gap_of : Float → Float
gap_of confusion = bits 0x4020_0000_0000_0000 ⊗ chord_multiple ⊗ confusion

-- "grow the box": low sides less the gap, high sides and the gap
unfoldable pub grown_of : Aabb → Float → Aabb
grown_of b confusion = record {
  low = point_of (b.low.x ⊖ gap_of confusion) (b.low.y ⊖ gap_of confusion) (b.low.z ⊖ gap_of confusion);
  high = point_of (b.high.x ⊕ gap_of confusion) (b.high.y ⊕ gap_of confusion) (b.high.z ⊕ gap_of confusion);
}

-- segment i goes from point i to the next
abbrev pub segment_meets : List Float → Aabb → ℕ → Bool
segment_meets l b i = segment_meets_box (point_at l i) (point_at l (i + 1)) b

-- the first segment of the points that meets the box
unfoldable pub first_segment : List Float → ℕ → Aabb → Option ℕ
first_segment l count b = first_in (segment_meets l b) 0 (count - 1)

-- whether some segment of the points meets the box
unfoldable pub some_segment : List Float → ℕ → Aabb → Bool
some_segment l count b = any_in (segment_meets l b) 0 (count - 1)

-- a part whose box is apart holds no segment that counts
unfoldable pub run_crosses : List Float → ℕ → Aabb → Bool
run_crosses l count b = pick (boxes_apart (bounds_of l count) b) false (some_segment l count b)

-- "Runs hold 16 segments, from points 0, 16, 32 and on"
abbrev pub run_length : ℕ
run_length = 16

-- the first point of run r
abbrev pub run_start : ℕ → ℕ
run_start r = run_length * r

-- how many runs the segments of `count` points make, the last maybe not full
abbrev pub runs_of : ℕ → ℕ
runs_of count = (count - 1 + (run_length - 1)) / run_length

-- the points of the run from point `first` on: one more than its segments, or what is left
abbrev pub run_points : ℕ → ℕ → ℕ
run_points count first = pick (ltb (run_length + 1) (count - first)) (run_length + 1) (count - first)

-- the numbers of the run from point `first` on, of a trace that ends with the list
unfoldable pub run_from : List Float → ℕ → List Float
run_from l first = take (width * (run_length + 1)) (from_group width first l)

-- "each run is handed on as a part of the trace from its first point"
abbrev pub run_at : List Float → ℕ → Aabb → ℕ → Bool
run_at l count b r = run_crosses (from_group width (run_start r) l) (run_points count (run_start r)) b

-- whether some run crosses the box
unfoldable pub some_run : List Float → ℕ → Aabb → Bool
some_run l count b = any_in (run_at l count b) 0 (runs_of count)

-- "only if the whole trace's box and its run's box are not apart from the grown box and `segment_meets_box` holds"
unfoldable pub crosses_of : List Float → ℕ → Aabb → Float → Bool
crosses_of l count b confusion = pick (boxes_apart (bounds_of l count) (grown_of b confusion)) false (some_run l count (grown_of b confusion))
