-- Each iteration adds a product.
use mathlib.Core.Path.{◌≡◌, refl}
use lib.Dec.{ltb}
use borrow.Author.Tests.{lt-ltb, le-ltb}
use Rattle.loops.specs.Loop.{pick}
use Rattle.loops.proofs.Loop.{ranged_again, ranged_done}
use Rattle.remainder.specs.Kernel.{part_of}
use Rattle.remainder.proofs.sums.part.Goals as goal
use Rattle.remainder.proofs.sums.part.Goals.{then-t-lt-JK, else-t-lt-JK}

pub loop-k-init : goal.loop-k-init
unfolding part_of
loop-k-init c =
    let t = c.args.t in
    let last : c.if-t-lt-JK.last ≡ pick (ltb t 4) t 4 = elim c.if-t-lt-JK.branch [
      | then-t-lt-JK w ↦ rw (w.last-is, lt-ltb _ _ w.if-t-lt-JK.true) refl
      | else-t-lt-JK w ↦ rw (w.last-is, le-ltb _ _ w.if-t-lt-JK.false) refl
    ] in
    rw last refl

pub loop-k-preserved : goal.loop-k-preserved
loop-k-preserved c = ranged_again _ _ _ c.loop-k-test.true (rw c.pio2.ensures refl) c.loop-k.invariant

pub returns : goal.returns
returns c = ranged_done _ _ _ c.loop-k-test.false c.loop-k.invariant
