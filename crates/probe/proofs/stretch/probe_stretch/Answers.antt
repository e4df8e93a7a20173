use mathlib.Core.Path.{◌≡◌}
use borrow.Author.Tests.{lt-ltb, le-ltb}
use Rattle.boxes.specs.Explain.{stretch_of}
use Rattle.probe.specs.Call.{point_from}
use Rattle.probe.specs.Stretch.{asked_tolerance, asked_box, probe_stretch}
use Rattle.probe.proofs.Read.{point_of_three}
use Rattle.probe.proofs.stretch.probe_stretch.Goals as goal
use Rattle.probe.proofs.stretch.probe_stretch.Goals.{After-stretch-stretch}

lent : (c : After-stretch-stretch)
    → c.stretch-stretch.result.now ≡ stretch_of (asked_tolerance c.args.confusion c.args.angular) c.args.buffer.now c.args.count (asked_box c.args.corners.now)
unfolding asked_box
lent c =
    let s = c.args.corners.now in
    let low : c.from-low.result ≡ point_from s 0 = rw (c.from-low.ensures, c.numbers.ensures) (point_of_three s 0) in
    let high : c.from-high.result ≡ point_from s 3 = rw (c.from-high.ensures, c.numbers-2.ensures) (point_of_three s 3) in
    rw (← low, ← high) c.stretch-stretch.ensures

pub returns-then-corners-lt6 : goal.returns-then-corners-lt6
unfolding probe_stretch
returns-then-corners-lt6 c = rw (lt-ltb _ 6 c.if-corners-lt6.true)

pub returns : goal.returns
unfolding probe_stretch
returns c =
    let e = lent (goal.at.returns c).After-stretch-stretch in
    rw (le-ltb _ 6 c.if-corners-lt6.false, ← e) c.put_stretch.ensures
