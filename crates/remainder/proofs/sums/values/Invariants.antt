-- Each iteration sets a value.
use mathlib.Core.Path.{◌≡◌}
use Prim.Native.Nat.{◌+◌, ◌-◌}
use Rattle.loops.specs.Loop.{ranged}
use Rattle.remainder.specs.Kernel.{value_step, valued, values_of}
use Rattle.remainder.proofs.sums.values.Given as goal

abbrev pub invariant-loop-i : goal.invariant-loop-i
invariant-loop-i l =
    (ranged (value_step l.iq l.fn.at.jz) (l.fn.at.jz + 1 - l.i) (l.fn.at.jz + 1) (valued l.q l.fw)).values ≡ values_of l.iq l.fn.at l.initial.q
