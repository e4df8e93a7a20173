-- Each iteration looks at a digit.
use mathlib.Core.Path.{refl}
use borrow.Author.Tests.{eq-eqb, ne_eqb}
use Rattle.loops.proofs.Loop.{searched_again, searched_leave, searched_done}
use Rattle.remainder.specs.Kernel.{needed_of}
use Rattle.remainder.proofs.digits.needed.Goals as goal

pub loop-k-init : goal.loop-k-init
unfolding needed_of
loop-k-init c = refl

pub returns-then-iq-k-ne0 : goal.returns-then-iq-k-ne0
returns-then-iq-k-ne0 c = searched_leave _ _ _ _ c.loop-k-test.true (rw (ne_eqb _ _ c.if-iq-k-ne0.true) refl) c.loop-k.invariant

pub loop-k-preserved : goal.loop-k-preserved
loop-k-preserved c = searched_again _ _ _ _ c.loop-k-test.true (rw (eq-eqb _ _ c.if-iq-k-ne0.false) refl) c.loop-k.invariant

pub returns : goal.returns
returns c = searched_done _ _ _ _ c.loop-k-test.false c.loop-k.invariant
