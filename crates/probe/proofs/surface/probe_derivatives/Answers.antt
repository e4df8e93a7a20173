use mathlib.Core.Path.{ap}
use borrow.Author.Tests.{le-ltb, lt-ltb}
use Rattle.probe.specs.Probe.{probed}
use Rattle.probe.specs.Surface.{probe_derivatives}
use Rattle.probe.proofs.Front.{six_put}
use Rattle.probe.proofs.surface.probe_derivatives.Goals as goal

pub returns-in_default : goal.returns-in_default
unfolding probe_derivatives
returns-in_default c = rw (lt-ltb _ 6 c.in_default.ensures.cases)

pub returns : goal.returns
unfolding probe_derivatives
returns c =
    let d = c.eval_d1-d.result in
    let room = c.in-Some.ensures.cases.enough in
    rw (le-ltb _ 6 room, ← c.eval_d1-d.ensures) (ap (probed 1) (six_put c.args.output.now d.u.x d.u.y d.u.z d.v.x d.v.y d.v.z room))
