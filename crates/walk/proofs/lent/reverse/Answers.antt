-- i points at each end are exchanged, those between are as they were
use mathlib.Core.Path.{◌≡◌, sym, ◌∙◌}
use Prim.Native.Nat.{◌-◌, ◌<◌, ◌*◌, ◌/◌}
use native.Mathlib.Omega.{arith}
use lib.ListN.{length}
use Rattle.groups.specs.Groups.{width}
use Rattle.groups.proofs.Rows.{row_there}
use Rattle.walk.proofs.Reversal.{reversing_again, reversing_done}
use Rattle.walk.proofs.lent.reverse.Goals as goal

pub loop-i-preserved : goal.loop-i-preserved
loop-i-preserved c =
    let b = c.args.points.now in
    let k = length b / width in
    let p = c.loop-i in
    let l : length p.points ≡ width * k = p.invariant.0.size ∙ sym c.requires in
    let h : p.i < k / 2 = omega (arith, c.loop-i-test.true) in (
      reversing_again k p.i b p.points (sym c.requires) h p.invariant.0
          (c.row_of-low.ensures ∙ row_there p.points p.i (omega (arith, l, h)))
          (c.row_of-high.ensures ∙ row_there p.points (k - 1 - p.i) (omega (arith, l, h)))
          c.put.ensures c.put-in-loop-i.ensures,
      (omega (arith, h), p.invariant.1.1),
    )

pub returns : goal.returns
returns c = reversing_done _ c.loop-i.i c.args.points.now c.loop-i.points (sym c.requires) (omega (arith, c.loop-i-test.false)) c.loop-i.invariant.1.0 c.loop-i.invariant.0
