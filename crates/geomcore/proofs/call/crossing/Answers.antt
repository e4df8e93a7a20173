-- What yes means is `crossing_promised`.
use Rattle.passing.proofs.Promised.{crossing_promised}
use Rattle.geomcore.proofs.call.crossing.Goals as goal

pub returns : goal.returns
returns c =
    let g = c.args in
    crossing_promised g.tol g.points.now g.count g.b c.crossing.ensures
