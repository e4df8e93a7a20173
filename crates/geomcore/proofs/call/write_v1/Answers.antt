-- What the file stands for is `write_v1_promised`.
use Rattle.passing.proofs.Filed.{write_v1_promised}
use Rattle.geomcore.proofs.call.write_v1.Goals as goal

-- `.shared-slice-known`: the lent numbers are binary64
pub returns : goal.returns
returns c =
    let g = c.args in
    write_v1_promised g.trace.now g.claim.count g.claim.start g.claim.code g.file.now c.shared_slice_known-1.given c.write_v1.ensures
