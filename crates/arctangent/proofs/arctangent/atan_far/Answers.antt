use borrow.Author.Tests.{ne_eqb}
use Rattle.arctangent.specs.Arctangent.{far_of}
use Rattle.arctangent.proofs.arctangent.atan_far.Goals as goal

pub returns-then-is_nan : goal.returns-then-is_nan
unfolding far_of
returns-then-is_nan c = rw (← c.is_nan.ensures.value, c.if-is_nan.true)

pub returns-then-sign-eq0 : goal.returns-then-sign-eq0
unfolding far_of
returns-then-sign-eq0 c = rw (← c.is_nan.ensures.value, c.if-is_nan.false, c.if-sign-eq0.true)

pub returns-else-sign-eq0 : goal.returns-else-sign-eq0
unfolding far_of
returns-else-sign-eq0 c = rw (← c.is_nan.ensures.value, c.if-is_nan.false, ne_eqb _ _ c.if-sign-eq0.false)
