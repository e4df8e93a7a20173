-- Each iteration sets a digit.
use mathlib.Core.Path.{refl}
use borrow.Author.Tests.{lt-ltb, le-ltb}
use Rattle.loops.proofs.Loop.{ranged_again, ranged_done}
use Rattle.remainder.specs.Kernel.{digit_of}
use Rattle.remainder.proofs.digits.first_digits.Goals as goal
use Rattle.remainder.proofs.digits.first_digits.Goals.{then-jv-i, else-jv-i}

pub loop-i-preserved : goal.loop-i-preserved
unfolding digit_of
loop-i-preserved c =
    ranged_again _ _ _ c.loop-i-test.true
    (elim c.if-jv-i.branch [
      | then-jv-i w ↦ rw (w.f-is, lt-ltb _ _ w.if-jv-i.true) refl
      | else-jv-i w ↦ rw (w.f-is, w.digit.ensures, le-ltb _ _ w.if-jv-i.false) refl
    ])
    c.loop-i.invariant

pub returns : goal.returns
returns c = ranged_done _ _ _ c.loop-i-test.false c.loop-i.invariant
