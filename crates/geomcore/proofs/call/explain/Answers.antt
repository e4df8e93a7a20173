-- What the reason says is `explain_promised`.
use Rattle.passing.proofs.Promised.{explain_promised}
use Rattle.geomcore.proofs.call.explain.Goals as goal

pub returns : goal.returns
returns c =
    let g = c.args in
    explain_promised g.tol g.points.now g.count g.b c.explain.ensures
