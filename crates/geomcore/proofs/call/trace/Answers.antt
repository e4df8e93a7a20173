-- That its lines pass is `trace_promised`.
use mathlib.Core.Path.{ap}
use Rattle.groups.specs.Traced.{Outcome}
use Rattle.passing.proofs.Promised.{trace_promised}
use Rattle.geomcore.proofs.call.trace.Goals as goal

pub returns : goal.returns
returns c =
    let g = c.args in
    let e = c.trace.ensures in
    trace_promised g.a g.b g.tol g.guess g.cap g.buffer.now (ap (λ (o : Outcome). o.answer) e) (ap (λ (o : Outcome). o.buffer) e)
