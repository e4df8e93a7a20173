use Rattle.walk.specs.Trace.{guess_finite}
use Rattle.walk.proofs.trace.guess_finite.Goals as goal

pub returns-then-is_finite-3 : goal.returns-then-is_finite-3
unfolding guess_finite
returns-then-is_finite-3 c = rw (c.is_finite-then-is_finite-3.ensures, ← c.is_finite.ensures, c.if-is_finite.true, ← c.is_finite-then-is_finite.ensures, c.if-is_finite-2.true, ← c.is_finite-then-is_finite-2.ensures, c.if-is_finite-3.true)

pub returns-else-is_finite-3 : goal.returns-else-is_finite-3
unfolding guess_finite
returns-else-is_finite-3 c = rw (← c.is_finite.ensures, c.if-is_finite.true, ← c.is_finite-then-is_finite.ensures, c.if-is_finite-2.true, ← c.is_finite-then-is_finite-2.ensures, c.if-is_finite-3.false)

pub returns-else-is_finite-2 : goal.returns-else-is_finite-2
unfolding guess_finite
returns-else-is_finite-2 c = rw (← c.is_finite.ensures, c.if-is_finite.true, ← c.is_finite-then-is_finite.ensures, c.if-is_finite-2.false)

pub returns-else-is_finite : goal.returns-else-is_finite
unfolding guess_finite
returns-else-is_finite c = rw (← c.is_finite.ensures, c.if-is_finite.false)
