use borrow.Author.Tests.{ne_eqb}
use Rattle.reduction.specs.Near.{near_of}
use Rattle.reduction.specs.Reduction.{first_difference, taken_of}
use Rattle.reduction.proofs.near.Goals as goal

pub returns-then-ix-ne1073291771 : goal.returns-then-ix-ne1073291771
unfolding near_of first_difference taken_of
returns-then-ix-ne1073291771 c = rw (c.taken.ensures, c.plain_difference-d.ensures.0, c.plain_difference-d.ensures.1, ne_eqb _ _ c.if-ix-ne1073291771.true)

pub returns : goal.returns
unfolding near_of first_difference taken_of
returns c = rw (c.taken-2.ensures, c.plain_difference.ensures.0, c.plain_difference.ensures.1, c.plain_difference-d.ensures.0, c.if-ix-ne1073291771.false)
