use Rattle.capi.proofs.Files.{read_bounded, read_word}
use Rattle.capi.proofs.geomcore_read_v1.Goals as goal

pub traced_word-requires : goal.traced_word-requires
traced_word-requires c = read_bounded c.read_v1.ensures

pub returns : goal.returns
returns c = read_word c.read_v1.ensures c.traced_word.ensures
