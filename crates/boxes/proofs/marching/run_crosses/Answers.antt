use mathlib.Core.Path.{◌≡◌, ◌∙◌}
use mathlib.Core.Bool.{Bool, true, false}
use mathlib.Core.List.{List}
use Prim.Native.Nat.{ℕ, ◌/◌}
use lib.Ieee.{Float}
use lib.ListN.{length}
use Rattle.groups.specs.Groups.{width}
use Rattle.boxes.specs.declared.boxtree.Aabb.{Aabb}
use Rattle.boxes.specs.Bounds.{boxes_apart, bounds_of}
use Rattle.boxes.specs.Crosses.{some_segment, run_crosses}
use Rattle.boxes.proofs.marching.run_crosses.Goals as goal

module _ (l : List Float) (count : ℕ) (b : Aabb) {bounds : Aabb} {r : Bool} (e : bounds ≡ bounds_of l count) (f : r ≡ boxes_apart bounds b) where
  apart : r ≡ true → false ≡ run_crosses l count b
  unfolding run_crosses
  apart h = rw (← e, ← f, h)

  near : r ≡ false → some_segment l count b ≡ run_crosses l count b
  unfolding run_crosses
  near h = rw (← e, ← f, h)

pub returns-then-boxes_apart : goal.returns-then-boxes_apart
returns-then-boxes_apart c =
    let l = c.args.points.now in
    apart l (length l / width) c.args.b c.bounding_box-bounds.ensures c.boxes_apart.ensures c.if-boxes_apart.true

pub returns : goal.returns
returns c =
    let l = c.args.points.now in
    c.some_segment.ensures ∙ near l (length l / width) c.args.b c.bounding_box-bounds.ensures c.boxes_apart.ensures c.if-boxes_apart.false
