-- Why a trace crosses a box, or why not (02, A6). Definitions only.
use Rattle.std.specs.Prelude.{Bool, not, ◌&&◌, List, [], ℕ, zero, suc, ◌-◌, ◌*◌, ◌/◌, take, Float, Option, Some, None, Result, Ok, Err}
use Rattle.loops.specs.First.{first_in, count_in}
use Rattle.groups.specs.Groups.{width, from_group}
use Rattle.geometry.specs.declared.tolerance.Tolerance.{Tolerance}
use Rattle.refusal.specs.declared.Refusal.{Refusal}
use Rattle.boxes.specs.declared.boxtree.Aabb.{Aabb}
use Rattle.boxes.specs.declared.explain.Reason.{Reason}
use Rattle.boxes.specs.declared.explain.Reason.TheVariants.{Segment, WholeApart, RunsApart, NoneMet}
use Rattle.boxes.specs.Bounds.{apart_on, boxes_apart, bounds_of}
use Rattle.boxes.specs.Counts.{run_bounds}
use Rattle.boxes.specs.Crosses.{run_length, segment_meets, grown_of}
use Rattle.boxes.specs.Crossing.{crossing_fitness, answer_of}

-- on the axis of this number, x, y, z as 0, 1, 2, the boxes are apart
abbrev pub apart_at : Aabb → Aabb → ℕ → Bool
apart_at a b zero = apart_on a.low.x a.high.x b.low.x b.high.x
apart_at a b (suc zero) = apart_on a.low.y a.high.y b.low.y b.high.y
apart_at a b (suc (suc k)) = apart_on a.low.z a.high.z b.low.z b.high.z

-- "the first axis on which it is"
unfoldable pub first_apart : Aabb → Aabb → Option ℕ
first_apart a b = first_in (apart_at a b) 0 3

-- the box of the run that holds segment i is not apart
abbrev pub run_near : List Float → ℕ → Aabb → ℕ → Bool
run_near l count grown i = not (boxes_apart (run_bounds l count (i / run_length)) grown)

-- the run's box is not apart, and segment i meets the box
abbrev pub met_at : List Float → ℕ → Aabb → ℕ → Bool
met_at l count grown i = run_near l count grown i && segment_meets l grown i

-- "the first segment that counts, by its index from 0", where the whole trace's box is not apart
abbrev pub first_met : List Float → ℕ → Aabb → Option ℕ
first_met l count grown = first_in (met_at l count grown) 0 (count - 1)

-- "the count of segments in runs not apart"
abbrev pub near_segments : List Float → ℕ → Aabb → ℕ
near_segments l count grown = count_in (run_near l count grown) 0 (count - 1)

-- where no segment meets the box: "all runs are apart", so that no segment lies in one that is not; or their count
abbrev pub unmet_reason : ℕ → Reason
unmet_reason zero = RunsApart
unmet_reason (suc n) = NoneMet (suc n)

-- the reason by the first segment that meets the box, and by the count
abbrev pub runs_reason_of : Option ℕ → ℕ → Reason
runs_reason_of (Some i) n = Segment i
runs_reason_of None n = unmet_reason n

-- what the runs say, where the whole trace's box is not apart
unfoldable pub runs_reason : List Float → ℕ → Aabb → Reason
runs_reason l count grown = runs_reason_of (first_met l count grown) (near_segments l count grown)

-- the axis on which the whole trace's box is apart, or what the runs say
abbrev pub whole_reason : Option ℕ → Reason → Reason
whole_reason (Some axis) runs = WholeApart axis
whole_reason None runs = runs

-- why the trace crosses the grown box, or why not
unfoldable pub trace_reason : List Float → ℕ → Aabb → Reason
trace_reason l count grown = whole_reason (first_apart (bounds_of l count) grown) (runs_reason l count grown)

-- the explaining call's answer
abbrev pub Explained : Type 0
Explained = Result Reason Refusal

-- "The first call's refusals and their order are the crossing's"
unfoldable pub explain_of : Tolerance → List Float → ℕ → Aabb → Explained
explain_of tol l count b = answer_of (crossing_fitness tol l count b) (trace_reason l count (grown_of b tol.confusion))

-- the paper's value of each reason: the segment's index, the axis, the count of segments
abbrev pub value_of : Reason → ℕ
value_of (Segment i) = i
value_of (WholeApart axis) = axis
value_of RunsApart = 0
value_of (NoneMet n) = n

-- the segment named, if one is
abbrev pub segment_of : Explained → Option ℕ
segment_of (Ok (Segment i)) = Some i
segment_of (Ok (WholeApart axis)) = None
segment_of (Ok RunsApart) = None
segment_of (Ok (NoneMet n)) = None
segment_of (Err r) = None

-- "the stretch of the lent trace made of that segment's two points"; "where there is no such segment .. it is empty"
abbrev pub stretch_at : List Float → Option ℕ → List Float
stretch_at l (Some i) = take (width * 2) (from_group width i l)
stretch_at l None = []

-- "or the first call refuses"
unfoldable pub stretch_of : Tolerance → List Float → ℕ → Aabb → List Float
stretch_of tol l count b = stretch_at l (segment_of (explain_of tol l count b))
