use Rattle.geometry.specs.Tolerance.{tolerance_fit}
use Rattle.geometry.proofs.tolerance.Tolerance.is_fit.Goals as goal

pub returns-then-self-3 : goal.returns-then-self-3
unfolding tolerance_fit
returns-then-self-3 c = rw (c.if-self.true, c.if-self-2.true, c.if-self-3.true)

pub returns-else-self-3 : goal.returns-else-self-3
unfolding tolerance_fit
returns-else-self-3 c = rw (c.if-self.true, c.if-self-2.true, c.if-self-3.false)

pub returns-else-self-2 : goal.returns-else-self-2
unfolding tolerance_fit
returns-else-self-2 c = rw (c.if-self.true, c.if-self-2.false)

pub returns-else-self : goal.returns-else-self
unfolding tolerance_fit
returns-else-self c = rw c.if-self.false
