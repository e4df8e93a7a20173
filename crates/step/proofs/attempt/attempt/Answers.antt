use mathlib.Core.Path.{◌≡◌}
use Rattle.step.specs.Attempt.{predicted, attempt_of}
use Rattle.step.proofs.attempt.attempt.Goals as goal

pub returns-in-None : goal.returns-in-None
unfolding attempt_of
returns-in-None c =
    let g = c.args in
    let e : c.predict-guess.result ≡ predicted g.a g.b g.w g.h = rw (c.predict-guess.ensures, c.mul.ensures) in
    rw (← e, ← c.leaving.ensures, c.in-None.is, ← c.inner.ensures)

pub returns-in-Some : goal.returns-in-Some
unfolding attempt_of
returns-in-Some c =
    let g = c.args in
    let e : c.predict-guess.result ≡ predicted g.a g.b g.w g.h = rw (c.predict-guess.ensures, c.mul.ensures) in
    rw (← e, ← c.leaving.ensures, c.in-Some.is, ← c.landed.ensures)
