use borrow.Author.Tests.{ne_eqb}
use Rattle.arctangent.specs.Arctangent.{upright}
use Rattle.arctangent.proofs.arctangent.upright.Goals as goal

pub returns-then-y_sign-eq0 : goal.returns-then-y_sign-eq0
unfolding upright
returns-then-y_sign-eq0 c = rw c.if-y_sign-eq0.true

pub returns-else-y_sign-eq0 : goal.returns-else-y_sign-eq0
unfolding upright
returns-else-y_sign-eq0 c = rw (ne_eqb _ _ c.if-y_sign-eq0.false)
