use native.Mathlib.Omega.{arith}
use lib.ListN.{length}
use Rattle.wire.proofs.Several.{from_each, filled_more}
use Rattle.wire.proofs.fill.Goals as goal

pub loop-k-preserved : goal.loop-k-preserved
loop-k-preserved c =
    let a = c.args in
    let l = c.loop-k in
    filled_more a.bytes.now a.at l.numbers l.k c.number.result (omega arith) l.invariant c.number.ensures

pub returns : goal.returns
returns c =
    let a = c.args in
    from_each a.bytes.now a.at (length a.numbers.now) c.loop-k.numbers (omega arith) (λ j d h. c.loop-k.invariant j d (omega arith))
