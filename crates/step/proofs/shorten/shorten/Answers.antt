-- The loop's invariant: the halvings left give what all of them give.
use mathlib.Core.Path.{◌≡◌, refl}
use mathlib.Core.Bool.{false}
use Rattle.loops.proofs.Loop.{searched_again, searched_leave, searched_done}
use Rattle.number.specs.Operators.{◌≤?◌}
use Rattle.step.specs.Shorten.{most_halvings, stride_of}
use Rattle.step.proofs.shorten.shorten.Goals as goal

pub loop-init : goal.loop-init
unfolding stride_of
loop-init c = refl

pub returns-in-Some : goal.returns-in-Some
returns-in-Some c = searched_leave _ _ _ most_halvings c.loop-test.true (rw (c.if-h-tol.true, ← c.attempt.ensures, c.in-Some.is)) c.loop.invariant

pub returns-else-h-tol : goal.returns-else-h-tol
returns-else-h-tol c =
    let below : (c.args.tol.confusion ≤? c.loop.h) ≡ false = c.if-h-tol.false in
    searched_leave _ _ _ most_halvings c.loop-test.true (rw below) c.loop.invariant

pub loop-preserved : goal.loop-preserved
loop-preserved c = searched_again _ _ _ most_halvings c.loop-test.true (rw (c.if-h-tol.true, ← c.attempt.ensures, c.in_default.is)) c.loop.invariant

pub returns : goal.returns
returns c = searched_done _ _ _ most_halvings c.loop-test.false c.loop.invariant
