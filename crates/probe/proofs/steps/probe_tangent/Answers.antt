use Rattle.std.proofs.Common.{◌≤◌, ap, length}
use native.Mathlib.Omega.{arith}
use Rattle.probe.specs.Probe.{probed}
use Rattle.probe.specs.Steps.{probe_tangent}
use Rattle.probe.proofs.Front.{three_put}
use Rattle.probe.proofs.steps.probe_tangent.Goals as goal

pub returns-in-Some : goal.returns-in-Some
unfolding probe_tangent
returns-in-Some c =
    let d = c.in-Some.d in
    let room : 3 ≤ length c.args.output.now = omega arith in
    rw (← c.read-c.ensures, ← c.tangent.ensures, c.in-Some.is, c.copy_from_slice.ensures.after) (ap (probed 1) (three_put c.args.output.now d.x d.y d.z room))

pub returns-in-None : goal.returns-in-None
unfolding probe_tangent
returns-in-None c = rw (← c.read-c.ensures, ← c.tangent.ensures, c.in-None.is)
