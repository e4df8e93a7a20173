-- Each iteration sets an entry.
use mathlib.Core.Path.{◌≡◌}
use Prim.Native.Nat.{◌+◌}
use Rattle.loops.specs.Loop.{ranged}
use Rattle.remainder.specs.Kernel.{part_set, parts_of}
use Rattle.remainder.proofs.sums.parts.Given as goal

abbrev pub invariant-loop-t : goal.invariant-loop-t
invariant-loop-t l = ranged (part_set l.q l.jz) l.t (l.jz + 1) l.fq ≡ parts_of l.q l.jz l.initial.fq
