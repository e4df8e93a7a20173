-- What passing means is `check_promised`.
use Rattle.passing.proofs.Promised.{check_promised}
use Rattle.geomcore.proofs.call.check.Goals as goal

-- `.shared-slice-known`: the lent numbers are binary64
pub returns : goal.returns
returns c =
    let g = c.args in
    check_promised g.a g.b g.tol g.trace.now g.claim.count g.claim.start g.claim.code c.shared_slice_known-1.given c.check.ensures
