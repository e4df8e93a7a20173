use Rattle.std.proofs.Common.{◌≡◌, None, rules}
use Rattle.step.specs.Attempt.{inner_of}
use Rattle.step.proofs.attempt.inner.Goals as goal

pub returns-in_default : goal.returns-in_default
unfolding inner_of
returns-in_default c = rw (← c.mul.ensures, ← c.add.ensures, ← c.meet_in_plane.ensures.answer, c.in_default.is)

pub returns-in_err-d : goal.returns-in_err-d
unfolding inner_of
returns-in_err-d c =
    let e : c.from_residual.result ≡ None = search rules in
    rw (e, ← c.mul.ensures, ← c.add.ensures, ← c.meet_in_plane.ensures.answer, c.in-At.is, ← c.tangent.ensures, c.in_err-d.was)

pub returns : goal.returns
unfolding inner_of
returns c =
    rw (c.onward.ensures, c.mul-2.ensures, c.eval_point-q.ensures, ← c.mul.ensures, ← c.add.ensures, ← c.meet_in_plane.ensures.answer)
    (rw (c.in-At.is, ← c.tangent.ensures, c.in_ok-d.was))
