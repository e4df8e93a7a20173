-- Each pass that has too few digits adds terms, so that jz grows.
use mathlib.Core.Path.{◌≡◌}
use Prim.Native.Nat.{◌+◌, ◌≤◌}
use Rattle.loops.specs.Loop.{on, searched}
use Rattle.remainder.specs.Kernel.{kernel_step, kernel_end, kernel_of, terms}
use Rattle.remainder.proofs.kernel.Given as goal

abbrev pub invariant-loop : goal.invariant-loop
invariant-loop l = record {
  found : searched (kernel_step l.x l.jx l.jv l.q0) kernel_end l.counter 16 (on (terms l.f l.q l.jz)) ≡ kernel_of l.x l.jx l.jv l.q0;
  from : 4 ≤ l.jz;
  to : l.jx + l.jz ≤ 19;
}
