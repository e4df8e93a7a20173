use mathlib.Core.Path.{◌≡◌, ◌∙◌}
use mathlib.Core.Bool.{Bool, true, false}
use mathlib.Core.List.{List}
use Prim.Native.Nat.{ℕ}
use lib.Ieee.{Float}
use Rattle.boxes.specs.declared.boxtree.Aabb.{Aabb}
use Rattle.boxes.specs.Bounds.{boxes_apart, bounds_of}
use Rattle.boxes.specs.Crosses.{grown_of, some_run, crosses_of}
use Rattle.boxes.proofs.Listed.{bounds_taken, runs_taken}
use Rattle.boxes.proofs.marching.crosses.Goals as goal

module _ (l : List Float) (count : ℕ) (b : Aabb) (confusion : Float) {wide bounds : Aabb} {r : Bool} where
  module _ (g : wide ≡ grown_of b confusion) (e : bounds ≡ bounds_of l count) (f : r ≡ boxes_apart bounds wide) where
    apart : r ≡ true → false ≡ crosses_of l count b confusion
    unfolding crosses_of
    apart h = rw (← g, ← e, ← f, h)

    near : {s : Bool} → r ≡ false → s ≡ some_run l count wide → s ≡ crosses_of l count b confusion
    unfolding crosses_of
    near h k = rw (← g, ← e, ← f, h) k

pub returns-then-boxes_apart : goal.returns-then-boxes_apart
returns-then-boxes_apart c =
    let l = c.args.points.now in let count = c.args.count in
    apart l count c.args.b c.args.confusion c.grown-wide.ensures
    (c.bounding_box-bounds.ensures ∙ bounds_taken l count c.requires.1 c.requires.0) c.boxes_apart.ensures c.if-boxes_apart.true

pub returns : goal.returns
returns c =
    let l = c.args.points.now in let count = c.args.count in
    near l count c.args.b c.args.confusion c.grown-wide.ensures
    (c.bounding_box-bounds.ensures ∙ bounds_taken l count c.requires.1 c.requires.0) c.boxes_apart.ensures c.if-boxes_apart.false
    (c.some_run.ensures ∙ runs_taken l count c.grown-wide.result c.requires.1)
