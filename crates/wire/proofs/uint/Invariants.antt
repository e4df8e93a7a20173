use Rattle.wire.proofs.Laws.{Taken}
use Rattle.wire.proofs.uint.Given as goal

abbrev pub invariant-loop-k : goal.invariant-loop-k
invariant-loop-k g l = Taken l.bytes l.at g.row.N l.k-iterator.count l.k-iterator.iter.iter.rest.now l.x
