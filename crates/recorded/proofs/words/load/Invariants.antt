use Rattle.std.proofs.Common.{◌≡◌, length}
use Rattle.loops.specs.Loop.{ranged}
use Rattle.recorded.specs.Words.{load_at, loaded_of}
use Rattle.recorded.proofs.words.load.Given as goal

abbrev pub invariant-loop-k : goal.invariant-loop-k
invariant-loop-k l = ranged (load_at l.words) l.k (length l.initial.numbers) l.numbers ≡ loaded_of l.words l.initial.numbers
