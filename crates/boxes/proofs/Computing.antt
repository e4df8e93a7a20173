-- For evaluation: what has to unfold so that the crossing's definitions compute on given numbers.
use lib.Ieee as Ieee
use Rattle.loops.specs.Loop.{iterated, exits}
use Rattle.number.specs.Helpers.{abs_of, max_of, min_of, number_fit}
use Rattle.groups.specs.Groups.{count_fits, holds_of}
use Rattle.geometry.specs.Tolerance.{tolerance_fit}
use Rattle.geometry.specs.Point.{point_of, point_fit}
use Rattle.boxes.specs.Bounds.{boxes_apart, point_box, cover_of, bounds_of}
use Rattle.boxes.specs.Segment.{clip_of, segment_meets_box}
use Rattle.boxes.specs.Crosses.{grown_of, some_segment, run_crosses, some_run, crosses_of}
use Rattle.boxes.specs.Explain.{first_apart, runs_reason, trace_reason, explain_of, stretch_of}
use Rattle.boxes.specs.Crossing.{sides_fit, box_fit, some_unfit, crossing_fitness, crossing_of}

-- an example says `unfolding computing` and `refl`
unfoldable pub computing : Unit {0}
unfolding explain_of stretch_of trace_reason runs_reason first_apart crossing_of crossing_fitness number_fit point_fit sides_fit box_fit some_unfit crosses_of some_run run_crosses some_segment grown_of segment_meets_box clip_of bounds_of cover_of point_box boxes_apart point_of tolerance_fit holds_of count_fits abs_of max_of min_of iterated exits Ieee.is_nan Ieee.of_bits Ieee.add Ieee.sub Ieee.mul Ieee.div Ieee.lt Ieee.le Ieee.eq
computing = tt
