-- The search goes on as the definition's does; `before` is the row before the one that is read.
use Rattle.std.proofs.Common.{◌≡◌, Err, refl, ap, ◌∙◌, rules}
use native.Mathlib.Omega.{arith}
use Prim.Native.Nat.{ℕ, ◌/◌, ◌<◌}
use mathlib.Core.List.{List}
use lib.ListN.{length, get_or}
use lib.Ieee.{Float}
use Rattle.std.specs.Simd.{first_chunks}
use Rattle.loops.proofs.Loop.{searched_again, searched_leave, searched_done}
use Rattle.groups.specs.Groups.{width}
use Rattle.groups.specs.declared.row.Row.{Row}
use Rattle.groups.specs.Row.{row_from, row_of}
use Rattle.groups.proofs.Rows.{length_groups, row_listed}
use Rattle.certificate.specs.Check.{all_passed, points_verdict}
use Rattle.certificate.proofs.Iterations.{point_out, point_on_lem, row_kept}
use Rattle.certificate.proofs.check.points_verdict.Goals as goal

-- the points listed are those of the list
many : (l : List Float) {items : List (List Float)} → items ≡ first_chunks width (length l / width) l → length items ≡ length l / width
many l e = ap length e ∙ length_groups width (length l / width) l

listed : (l : List Float) {items : List (List Float)} (i : ℕ) {r : Row} (d : List Float) → items ≡ first_chunks width (length l / width) l
    → i < length items → r ≡ row_from (get_or items i d) 0 → r ≡ row_of l i
listed l i d e h f = f ∙ ap (λ (g : List (List Float)). row_from (get_or g i d) 0) e ∙ row_listed l i d (let n = many l e in omega arith)

pub loop-i-init : goal.loop-i-init
unfolding points_verdict
loop-i-init c = (refl, c.row_of-before.ensures, omega arith)

pub returns-in_err-point_verdict : goal.returns-in_err-point_verdict
returns-in_err-point_verdict c =
    let g = c.args in
    let l = g.points.now in
    let n = many l c.rows-numbers-items.ensures in
    let read = listed l c.loop-i.i _ c.rows-numbers-items.ensures c.loop-i-test.true c.from-row.ensures in
    let out = point_out g.a g.b g.confusion (row_of l) g.end c.loop-i.i c.loop-i.invariant.1 read c.point_verdict.ensures c.in_err-point_verdict.was in
    let e : c.from_residual.result ≡ Err c.in_err-point_verdict.field-0.0 = search rules in
    e ∙ searched_leave _ all_passed c.loop-i.i (length l / width) {s = tt} (omega (arith, n, c.loop-i-test.true)) out c.loop-i.invariant.0

pub loop-i-preserved : goal.loop-i-preserved
loop-i-preserved c =
    let g = c.args in
    let l = g.points.now in
    let n = many l c.rows-numbers-items.ensures in
    let read = listed l c.loop-i.i _ c.rows-numbers-items.ensures c.loop-i-test.true c.from-row.ensures in
    let on = point_on_lem g.a g.b g.confusion (row_of l) g.end c.loop-i.i c.loop-i.invariant.1 read c.point_verdict.ensures c.in_ok-point_verdict.was in
    (searched_again _ all_passed c.loop-i.i (length l / width) (omega (arith, n, c.loop-i-test.true)) on c.loop-i.invariant.0, row_kept (row_of l) c.loop-i.i read, omega (arith, n, c.loop-i-test.true))

pub returns : goal.returns
returns c =
    let l = c.args.points.now in
    let n = many l c.rows-numbers-items.ensures in
    searched_done _ all_passed c.loop-i.i (length l / width) {s = tt} (omega (arith, n, c.loop-i-test.false)) c.loop-i.invariant.0
