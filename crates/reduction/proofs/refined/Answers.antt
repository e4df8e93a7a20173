-- The quick test, or the careful steps.
use borrow.Author.Tests.{lt-ltb, le-ltb, eq-eqb, ne_eqb}
use Rattle.reduction.specs.Reduction.{refined_of}
use Rattle.reduction.proofs.refined.Goals as goal
use Rattle.reduction.proofs.refined.Goals.{else-whole-lt32-via-then-whole-lt32+else-ix-npio2_hw, else-whole-lt32-via-else-whole-lt32}

pub returns-then-ix-npio2_hw : goal.returns-then-ix-npio2_hw
unfolding refined_of
returns-then-ix-npio2_hw c = rw (lt-ltb _ _ c.if-whole-lt32.true, ← c.npio2_hw.ensures, ne_eqb _ _ c.if-ix-npio2_hw.true)

pub returns : goal.returns
unfolding refined_of
returns c =
    rw c.careful.ensures
    (elim c.else-whole-lt32.branch [
      | else-whole-lt32-via-then-whole-lt32+else-ix-npio2_hw w ↦ rw (lt-ltb _ _ w.if-whole-lt32.true, ← w.npio2_hw.ensures, eq-eqb _ _ w.if-ix-npio2_hw.false)
      | else-whole-lt32-via-else-whole-lt32 w ↦ rw (le-ltb _ _ w.if-whole-lt32.false)
    ])
