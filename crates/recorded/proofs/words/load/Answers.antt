use Rattle.std.proofs.Common.{arith}
use Rattle.loops.proofs.Loop.{ranged_again, ranged_done}
use Rattle.recorded.proofs.words.load.Goals as goal

pub loop-k-preserved : goal.loop-k-preserved
loop-k-preserved c = ranged_again _ _ _ (omega arith) (rw (c.from_bits.ensures, c.word.ensures)) c.loop-k.invariant

pub returns : goal.returns
returns c = ranged_done _ _ _ (omega arith) c.loop-k.invariant
