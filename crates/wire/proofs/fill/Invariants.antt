use Rattle.wire.proofs.Several.{Filled}
use Rattle.wire.proofs.fill.Given as goal

abbrev pub invariant-loop-k : goal.invariant-loop-k
invariant-loop-k l = Filled l.bytes l.at l.numbers l.k
