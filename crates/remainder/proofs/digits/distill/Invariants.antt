-- Each iteration takes a digit off z.
use mathlib.Core.Path.{◌≡◌}
use Rattle.loops.specs.Loop.{ranged}
use Rattle.remainder.specs.Kernel.{distill_step, distilled, distill_of}
use Rattle.remainder.proofs.digits.distill.Given as goal

abbrev pub invariant-loop-i : goal.invariant-loop-i
invariant-loop-i l = ranged (distill_step l.q l.jz) l.i l.jz (distilled l.iq l.z) ≡ distill_of l.q l.jz l.initial.iq
