-- Each iteration passes a digit that is 0.
use mathlib.Core.Path.{◌≡◌}
use Prim.Native.Nat.{◌-◌, ◌*◌, ◌+◌}
use lib.IntN.{pos, ◌+ℤ◌}
use Rattle.loops.specs.Loop.{on, searched}
use Rattle.remainder.specs.Kernel.{chop_step, chop_end, chop_of}
use Rattle.remainder.proofs.sums.chop.Given as goal

abbrev pub invariant-loop-i : goal.invariant-loop-i
invariant-loop-i l = record {
  found : searched (chop_step l.iq (l.jz - 1)) chop_end (l.jz - l.i) l.jz (on l.q0) ≡ chop_of l.iq l.jz l.fn.q0;
  lower : l.q0 +ℤ pos (24 * (l.jz - l.i) + 24) ≡ l.fn.q0;
}
