use Rattle.analytic.specs.Surface.{eval_d1}
use Rattle.analytic.proofs.analytic.cone_derivatives.Goals as goal

pub returns : goal.returns
unfolding eval_d1
returns c =
    let at-u = c.sin_cos-su.ensures in
    let at_a = c.sin_cos-sa.ensures in
    rw (c.combination-3.ensures, c.combination-2.ensures, c.combination.ensures, at-u.0, at-u.1, at_a.0, at_a.1)
