use Rattle.loops.proofs.Choice.{and_taken, and_left}
use Rattle.geometry.specs.Point.{point_fit}
use Rattle.geometry.proofs.point.Point3D.is_fit.Goals as goal

pub returns-then-number_fit-2 : goal.returns-then-number_fit-2
unfolding point_fit
returns-then-number_fit-2 c = and_taken c.number_fit.ensures c.if-number_fit.true (and_taken c.number_fit-then-number_fit.ensures c.if-number_fit-2.true c.number_fit-then-number_fit-2.ensures)

pub returns-else-number_fit-2 : goal.returns-else-number_fit-2
unfolding point_fit
returns-else-number_fit-2 c = and_taken c.number_fit.ensures c.if-number_fit.true (and_left _ c.number_fit-then-number_fit.ensures c.if-number_fit-2.false)

pub returns-else-number_fit : goal.returns-else-number_fit
unfolding point_fit
returns-else-number_fit c = and_left _ c.number_fit.ensures c.if-number_fit.false
