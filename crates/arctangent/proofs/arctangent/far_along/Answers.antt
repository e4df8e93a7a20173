use borrow.Author.Tests.{ne_eqb}
use Rattle.arctangent.specs.Arctangent.{far_along}
use Rattle.arctangent.proofs.arctangent.far_along.Goals as goal

pub returns-then-iy-eq2146435072 : goal.returns-then-iy-eq2146435072
unfolding far_along
returns-then-iy-eq2146435072 c = rw (c.by_signs.ensures, c.if-iy-eq2146435072.true)

pub returns-else-iy-eq2146435072 : goal.returns-else-iy-eq2146435072
unfolding far_along
returns-else-iy-eq2146435072 c = rw (c.by_signs-else-iy-eq2146435072.ensures, ne_eqb _ _ c.if-iy-eq2146435072.false)
