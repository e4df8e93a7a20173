-- The invariant is `Going`: the buffer holds the points so far, in the order walked.
use Rattle.walk.proofs.Halves.{begun_is, going_start, going_on, held, going_ended, going_edge, going_closed, going_spent}
use Rattle.walk.proofs.half.half.Goals as goal

pub loop-count-init : goal.loop-count-init
loop-count-init c = going_start c.requires.own c.requires.room

pub left_of-left-requires : goal.left_of-left-requires
left_of-left-requires c = held c.loop-count.invariant c.loop-count-test.true c.step.ensures c.in-Closed.is

pub returns-in-Closed : goal.returns-in-Closed
returns-in-Closed c =
    let v = c.loop-count.invariant in
    going_closed v c.loop-count-test.true c.step.ensures (begun_is v _ c.walker-w.ensures c.first_stride-h.ensures)
    c.in-Closed.is c.left_of-left.ensures c.row_for-in-Closed.ensures c.put-in-Closed.ensures

pub returns-in-Edge : goal.returns-in-Edge
returns-in-Edge c =
    let v = c.loop-count.invariant in
    rw (c.open.ensures.0, c.open.ensures.1)
    (going_edge v c.loop-count-test.true c.step.ensures (begun_is v _ c.walker-w.ensures c.first_stride-h.ensures)
    c.in-Edge.is c.row_for-in-Edge.ensures c.put-in-Edge.ensures)

pub returns-in-Ended : goal.returns-in-Ended
returns-in-Ended c =
    let v = c.loop-count.invariant in
    rw (c.open-in-Ended.ensures.0, c.open-in-Ended.ensures.1)
    (going_ended v c.loop-count-test.true c.step.ensures (begun_is v _ c.walker-w.ensures c.first_stride-h.ensures) c.in-Ended.is)

pub loop-count-preserved : goal.loop-count-preserved
loop-count-preserved c = going_on c.loop-count.invariant c.loop-count-test.true c.step.ensures c.in-Onward.is c.row_for.ensures c.put.ensures

pub returns : goal.returns
returns c =
    let v = c.loop-count.invariant in
    rw (c.open-2.ensures.0, c.open-2.ensures.1) (going_spent v c.loop-count-test.false (begun_is v _ c.walker-w.ensures c.first_stride-h.ensures))
