use Rattle.wire.proofs.Laws.{uint_put}
use Rattle.wire.proofs.put_uint.Goals as goal

pub returns : goal.returns
returns g c =
    let a = c.args in
    let r = c.requires in
    uint_put g.row.N a.at a.x a.bytes.now c.copy_from_slice.new.self c.to_be_bytes.result r.few r.there r.fits c.to_be_bytes.ensures c.copy_from_slice.ensures.after
