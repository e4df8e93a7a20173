use mathlib.Core.Path.{◌≡◌}
use lib.ListN.{take}
use Rattle.loops.specs.Over.{over}
use Rattle.wire.specs.Wire.{numbers_bytes}
use Rattle.wire.proofs.put_numbers.Given as goal

abbrev pub invariant-loop-k : goal.invariant-loop-k
invariant-loop-k l = l.bytes ≡ over l.initial.bytes l.at (numbers_bytes (take l.k l.numbers))
