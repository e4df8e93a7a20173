use Rattle.analytic.specs.Surface.{eval_d1}
use Rattle.analytic.proofs.analytic.cylinder_derivatives.Goals as goal

pub returns : goal.returns
unfolding eval_d1
returns c = rw (c.combination.ensures, c.sin_cos-su.ensures.0, c.sin_cos-su.ensures.1)
