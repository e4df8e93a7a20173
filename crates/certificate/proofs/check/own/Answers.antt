use Rattle.certificate.specs.Check.{own_of}
use Rattle.certificate.proofs.check.own.Goals as goal

pub returns-then-finite_point : goal.returns-then-finite_point
unfolding own_of
returns-then-finite_point c = rw (← c.finite_point.ensures, c.if-finite_point.true) c.same_point.ensures

pub returns-else-finite_point : goal.returns-else-finite_point
unfolding own_of
returns-else-finite_point c = rw (← c.finite_point.ensures, c.if-finite_point.false)
