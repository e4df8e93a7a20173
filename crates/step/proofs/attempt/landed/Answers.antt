use Rattle.step.specs.Attempt.{landed_of}
use Rattle.step.proofs.attempt.landed.Goals as goal

pub returns-in_default : goal.returns-in_default
unfolding landed_of
returns-in_default c = rw (← c.land.ensures.answer, c.in_default.is)

pub returns-then-landing_kept : goal.returns-then-landing_kept
unfolding landed_of
returns-then-landing_kept c = rw (← c.land.ensures.answer, c.in-At.is, ← c.eval_point-q.ensures, ← c.landing_kept.ensures, c.if-landing_kept.true)

pub returns-else-landing_kept : goal.returns-else-landing_kept
unfolding landed_of
returns-else-landing_kept c = rw (← c.land.ensures.answer, c.in-At.is, ← c.eval_point-q.ensures, ← c.landing_kept.ensures, c.if-landing_kept.false)
