use borrow.Author.Tests.{lt-ltb, le-ltb, le-leb, lt-leb, ne_eqb}
use Rattle.arctangent.specs.Arctangent.{quotient_of}
use Rattle.arctangent.proofs.arctangent.quotient.Goals as goal
use Rattle.arctangent.proofs.arctangent.quotient.Goals.{else-x_sign-eq1-via-then-x_sign-eq1+else-iy-ix, else-x_sign-eq1-via-else-x_sign-eq1}

pub returns-then-ix-iy : goal.returns-then-ix-iy
unfolding quotient_of
returns-then-ix-iy c = rw (le-leb _ _ c.if-ix-iy.true)

pub returns-then-iy-ix : goal.returns-then-iy-ix
unfolding quotient_of
returns-then-iy-ix c = rw (lt-leb _ _ c.if-ix-iy.false, c.if-x_sign-eq1.true, lt-ltb _ _ c.if-iy-ix.true)

pub returns : goal.returns
unfolding quotient_of
returns c =
    rw (c.atan.ensures, c.abs.ensures, lt-leb _ _ c.if-ix-iy.false)
    (elim c.else-x_sign-eq1.branch [
      | else-x_sign-eq1-via-then-x_sign-eq1+else-iy-ix w ↦ rw (w.if-x_sign-eq1.true, le-ltb _ _ w.if-iy-ix.false)
      | else-x_sign-eq1-via-else-x_sign-eq1 w ↦ rw (ne_eqb _ _ w.if-x_sign-eq1.false)
    ])
