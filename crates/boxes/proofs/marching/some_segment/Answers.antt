use mathlib.Core.Path.{ap, ◌∙◌}
use Prim.Native.Nat.{◌-◌, ◌/◌}
use lib.ListN.{length}
use Rattle.std.specs.Prelude.{is_some}
use Rattle.groups.specs.Groups.{width}
use Rattle.loops.proofs.First.{first_any}
use Rattle.boxes.specs.Crosses.{segment_meets, first_segment, some_segment}
use Rattle.boxes.proofs.marching.some_segment.Goals as goal

pub returns : goal.returns
unfolding first_segment some_segment
returns c =
    let l = c.args.points.now in
    c.is_some.ensures ∙ ap is_some c.first_segment.ensures ∙ first_any (segment_meets l c.args.b) 0 (length l / width - 1)
