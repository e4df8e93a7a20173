use Rattle.std.proofs.Common.{◌≡◌, arith}
use borrow.Author.Tests.{ne_eqb}
use Rattle.fdlibm.specs.Sine.{sin_at, cos_at}
use Rattle.fdlibm.proofs.both_at.Goals as goal

pub returns-in-0 : goal.returns-in-0
unfolding sin_at cos_at
returns-in-0 c = (rw (c.kernels-k.ensures.0, c.in-0.is), rw (c.kernels-k.ensures.1, c.in-0.is))

pub returns-in-1 : goal.returns-in-1
unfolding sin_at cos_at
returns-in-1 c = (rw (c.kernels-k.ensures.1, c.in-1.is), rw (c.kernels-k.ensures.0, c.in-1.is))

pub returns-in-2 : goal.returns-in-2
unfolding sin_at cos_at
returns-in-2 c = (rw (c.kernels-k.ensures.0, c.in-2.is), rw (c.kernels-k.ensures.1, c.in-2.is))

pub returns-in_default : goal.returns-in_default
unfolding sin_at cos_at
returns-in_default c =
    let q = c.args.a.quadrant in
    let p0 : q ≡ 0 → ⊥ = λ e. omega arith in
    let p1 : q ≡ 1 → ⊥ = λ e. omega arith in
    let p2 : q ≡ 2 → ⊥ = λ e. omega arith in (
      rw (c.kernels-k.ensures.1, ne_eqb _ _ p0, ne_eqb _ _ p1, ne_eqb _ _ p2),
      rw (c.kernels-k.ensures.0, ne_eqb _ _ p0, ne_eqb _ _ p1, ne_eqb _ _ p2),
    )
