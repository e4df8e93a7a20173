-- What the file stands for is `read_promised`.
use Rattle.trace_file.specs.Layout.{version1, width1}
use Rattle.passing.proofs.Filed.{read_promised}
use Rattle.geomcore.proofs.call.read_v1.Goals as goal

-- `.shared-slice-known`: the lent bytes are below 256
pub returns : goal.returns
returns c =
    let g = c.args in
    read_promised version1 width1 g.file.now g.buffer.now (λ k. (c.shared_slice_known-1.given k).fits) c.read_v1.ensures
