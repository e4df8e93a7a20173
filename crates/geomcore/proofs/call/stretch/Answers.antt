-- What the stretch has is `stretch_promised`.
use Rattle.passing.proofs.Promised.{stretch_promised}
use Rattle.geomcore.proofs.call.stretch.Goals as goal

pub returns : goal.returns
returns c =
    let g = c.args in
    stretch_promised g.tol g.points.now g.count g.b c.stretch.ensures
