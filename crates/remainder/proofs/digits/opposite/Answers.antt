use borrow.Author.Tests.{eq-eqb, ne_eqb}
use Rattle.remainder.specs.Kernel.{opposite_of}
use Rattle.remainder.proofs.digits.opposite.Goals as goal

pub returns-then-carry : goal.returns-then-carry
unfolding opposite_of
returns-then-carry c = rw c.if-carry.true c.saturating_sub.ensures

pub returns-then-j-eq0 : goal.returns-then-j-eq0
unfolding opposite_of
returns-then-j-eq0 c = rw (c.if-carry.false, eq-eqb _ _ c.if-j-eq0.true)

pub returns : goal.returns
unfolding opposite_of
returns c = rw (c.if-carry.false, ne_eqb _ _ c.if-j-eq0.false) c.saturating_sub-2.ensures
