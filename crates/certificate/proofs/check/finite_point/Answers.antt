use Rattle.certificate.specs.Check.{finite_point}
use Rattle.certificate.proofs.check.finite_point.Goals as goal

pub returns-then-is_finite-2 : goal.returns-then-is_finite-2
unfolding finite_point
returns-then-is_finite-2 c = rw (← c.is_finite.ensures, c.if-is_finite.true, ← c.is_finite-then-is_finite.ensures, c.if-is_finite-2.true) c.is_finite-then-is_finite-2.ensures

pub returns-else-is_finite-2 : goal.returns-else-is_finite-2
unfolding finite_point
returns-else-is_finite-2 c = rw (← c.is_finite.ensures, c.if-is_finite.true, ← c.is_finite-then-is_finite.ensures, c.if-is_finite-2.false)

pub returns-else-is_finite : goal.returns-else-is_finite
unfolding finite_point
returns-else-is_finite c = rw (← c.is_finite.ensures, c.if-is_finite.false)
