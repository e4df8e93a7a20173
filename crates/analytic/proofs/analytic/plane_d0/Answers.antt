use Rattle.analytic.specs.Surface.{eval_point}
use Rattle.analytic.proofs.analytic.plane_d0.Goals as goal

pub returns : goal.returns
unfolding eval_point
returns c = rw c.point_at.ensures
