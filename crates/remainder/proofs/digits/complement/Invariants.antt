-- Each iteration turns a digit.
use mathlib.Core.Path.{◌≡◌}
use Rattle.loops.specs.Loop.{ranged}
use Rattle.remainder.specs.Kernel.{complement_step, complemented, complement_of}
use Rattle.remainder.proofs.digits.complement.Given as goal

abbrev pub invariant-loop-i : goal.invariant-loop-i
invariant-loop-i l = ranged complement_step l.i l.jz (complemented l.iq l.carry) ≡ complement_of l.initial.iq l.jz
