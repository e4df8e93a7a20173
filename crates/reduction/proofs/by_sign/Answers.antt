use borrow.Author.Tests.{eq-eqb, ne_eqb}
use Rattle.reduction.proofs.by_sign.Goals as goal

pub returns-then-sign-eq0 : goal.returns-then-sign-eq0
returns-then-sign-eq0 c = rw (eq-eqb _ _ c.if-sign-eq0.true)

pub returns-else-sign-eq0 : goal.returns-else-sign-eq0
returns-else-sign-eq0 c = rw (c.negated.ensures, ne_eqb _ _ c.if-sign-eq0.false)
