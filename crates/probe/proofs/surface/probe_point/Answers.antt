use mathlib.Core.Path.{ap}
use borrow.Author.Tests.{le-ltb, lt-ltb}
use Rattle.probe.specs.Probe.{probed}
use Rattle.probe.specs.Surface.{probe_point}
use Rattle.probe.proofs.Front.{three_put}
use Rattle.probe.proofs.surface.probe_point.Goals as goal

pub returns-in_default : goal.returns-in_default
unfolding probe_point
returns-in_default c = rw (lt-ltb _ 3 c.in_default.ensures.cases)

pub returns : goal.returns
unfolding probe_point
returns c =
    let p = c.eval_point-p.result in
    let room = c.in-Some.ensures.cases.enough in
    rw (le-ltb _ 3 room, ← c.eval_point-p.ensures) (ap (probed 1) (three_put c.args.output.now p.x p.y p.z room))
