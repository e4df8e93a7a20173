use Rattle.analytic.specs.Surface.{eval_d1}
use Rattle.analytic.proofs.analytic.sphere_derivatives.Goals as goal

pub returns : goal.returns
unfolding eval_d1
returns c =
    let at-u = c.sin_cos-su.ensures in
    let at-v = c.sin_cos-sv.ensures in
    rw (c.combination-3.ensures, c.combination-2.ensures, c.mul.ensures, c.combination.ensures, at-u.0, at-u.1, at-v.0, at-v.1)
