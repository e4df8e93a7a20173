use Rattle.capi.proofs.Files.{bytes_fit, written_word_lem}
use Rattle.capi.proofs.geomcore_write_v1.Goals as goal

pub written_word-requires : goal.written_word-requires
written_word-requires c = bytes_fit c.write_v1.ensures

pub returns : goal.returns
returns c = written_word_lem (rw c.claim-claim.ensures at c.write_v1.ensures) c.written_word.ensures
