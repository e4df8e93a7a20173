-- The search goes on as the definition's does, run by run.
use Rattle.std.specs.Prelude.{None}
use mathlib.Core.Path.{◌≡◌, sym, ap, subst, ◌∙◌}
use mathlib.Core.Bool.{Bool, true, false}
use mathlib.Core.List.{List}
use Prim.Native.Nat.{ℕ, ◌+◌, ◌-◌, ◌/◌, ◌≤◌, ◌<◌}
use native.Mathlib.Omega.{arith}
use lib.Ieee.{Float}
use lib.ListN.{length}
use Rattle.groups.specs.Groups.{width}
use Rattle.boxes.specs.declared.boxtree.Aabb.{Aabb}
use Rattle.boxes.specs.declared.explain.Reason.{Reason}
use Rattle.boxes.specs.Bounds.{boxes_apart, bounds_of}
use Rattle.boxes.specs.Crosses.{run_length, run_from, first_segment}
use Rattle.boxes.specs.Explain.{unmet_reason, runs_reason}
use Rattle.boxes.proofs.Listed.{points_handed}
use Rattle.boxes.proofs.Searching.{Searching, apart_handed, segment_handed, searching_start, searching_end, searching_apart, searching_met, met_below, searching_missed}
use Rattle.boxes.proofs.explain.runs_reason.Goals as goal
use Rattle.boxes.proofs.explain.runs_reason.Goals.{else-loop-first-test, then-loop-first-test+else-segments-first-gt16, then-not-boxes_apart+in_default, else-not-boxes_apart}

-- with the count as the function names it
module _ (l : List Float) (b : Aabb) {first near after : ℕ} where
  ended : {r : Reason} → length l / width - 1 ≤ first → Searching l b first near → after ≡ near → r ≡ unmet_reason after → r ≡ runs_reason l (length l / width) b
  ended h s e f = f ∙ ap unmet_reason e ∙ searching_end l b h s

  module _ (s : Searching l b first near) where
    missed : {run : List Float} {r : Bool} → run ≡ run_from l first → (h : first < length l / width - 1)
        → r ≡ boxes_apart (bounds_of (run_from l first) (length (run_from l first) / width)) b → r ≡ false
        → first_segment (run_from l first) (length (run_from l first) / width) b ≡ None → after ≡ near + (length run / width - 1) → Searching l b (first + run_length) after
    missed d h e f m n =
        subst (Searching l b (first + run_length)) (sym (n ∙ ap (λ (p : List Float). near + (length p / width - 1)) d)) (searching_missed l b s h e f m)

    apart : {r : Bool} → (h : first < length l / width - 1) → r ≡ boxes_apart (bounds_of (run_from l first) (length (run_from l first) / width)) b → r ≡ true
        → after ≡ near → Searching l b (first + run_length) after
    apart h e f n = subst (Searching l b (first + run_length)) (sym n) (searching_apart l b s h e f)

pub loop-first-init : goal.loop-first-init
loop-first-init c = searching_start c.args.points.now c.args.b

pub bounding_box-requires : goal.bounding_box-requires
bounding_box-requires c =
    let t = c.loop-first-test.true in
    let p = points_handed c.args.points.now c.loop-first.first c.run_from-run.ensures (omega arith) in
    omega (arith, p.0)

pub overflow_add-result : goal.overflow_add-result
overflow_add-result c =
    let l = c.args.points.now in let b = c.args.b in let first = c.loop-first.first in let t = c.loop-first-test.true in
    let e = apart_handed l b first c.run_from-run.ensures c.bounding_box.ensures c.boxes_apart.ensures in
    let m =
    met_below l b c.loop-first.invariant (omega arith) e c.if-not-boxes_apart.true
    (segment_handed l b first c.run_from-run.ensures c.first_segment.ensures c.in-Some.is) in
    omega (arith, m)

pub returns-in-Some : goal.returns-in-Some
returns-in-Some c =
    let l = c.args.points.now in let b = c.args.b in let first = c.loop-first.first in let t = c.loop-first-test.true in
    let e = apart_handed l b first c.run_from-run.ensures c.bounding_box.ensures c.boxes_apart.ensures in
    searching_met l b c.loop-first.invariant (omega arith) e c.if-not-boxes_apart.true
    (segment_handed l b first c.run_from-run.ensures c.first_segment.ensures c.in-Some.is)

pub overflow_sub-near : goal.overflow_sub-near
overflow_sub-near c =
    let t = c.loop-first-test.true in
    let p = points_handed c.args.points.now c.loop-first.first c.run_from-run.ensures (omega arith) in
    omega (arith, p.0)

pub overflow_add-near : goal.overflow_add-near
overflow_add-near c =
    let l = c.args.points.now in let b = c.args.b in let first = c.loop-first.first in let t = c.loop-first-test.true in
    let w = c.loop-first.invariant.before in
    let p = points_handed l first c.run_from-run.ensures (omega arith) in
    omega (arith, w, p.0, p.1)

pub loop-first-preserved : goal.loop-first-preserved
loop-first-preserved c =
    let l = c.args.points.now in let b = c.args.b in let first = c.loop-first.first in let t = c.loop-first-test.true in
    let s = c.loop-first.invariant in
    let e = apart_handed l b first c.run_from-run.ensures c.bounding_box.ensures c.boxes_apart.ensures in
    elim c.if-not-boxes_apart.branch [
      | then-not-boxes_apart+in_default w ↦ missed l b s c.run_from-run.ensures (omega arith) e w.if-not-boxes_apart.true
          (segment_handed l b first c.run_from-run.ensures w.first_segment.ensures w.in_default.is) w.near-is
      | else-not-boxes_apart w ↦ apart l b s (omega arith) e w.if-not-boxes_apart.false w.near-is
    ]

pub returns : goal.returns
returns c =
    let l = c.args.points.now in let b = c.args.b in let first = c.loop-first.first in
    elim c.loop-first-test.branch [
      | else-loop-first-test w ↦
          let t = w.loop-first-test.false in
          ended l b (omega arith) c.loop-first.invariant w.near-is c.unmet_reason.ensures
      | then-loop-first-test+else-segments-first-gt16 w ↦
          let t = w.loop-first-test.true in
          let e = apart_handed l b first w.run_from-run.ensures w.bounding_box.ensures w.boxes_apart.ensures in
          elim w.if-not-boxes_apart.branch [
            | then-not-boxes_apart+in_default w' ↦ ended l b (omega arith) (missed l b c.loop-first.invariant w.run_from-run.ensures (omega arith) e w'.if-not-boxes_apart.true
                (segment_handed l b first w.run_from-run.ensures w'.first_segment.ensures w'.in_default.is) w'.near-is) w.near-is c.unmet_reason.ensures
            | else-not-boxes_apart w' ↦ ended l b (omega arith) (apart l b c.loop-first.invariant (omega arith) e w'.if-not-boxes_apart.false w'.near-is) w.near-is c.unmet_reason.ensures
          ]
    ]
