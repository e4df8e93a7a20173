-- Each iteration looks at a digit.
use mathlib.Core.Path.{◌≡◌}
use Rattle.loops.specs.Loop.{on, searched}
use Rattle.remainder.specs.Kernel.{needed_step, none_needed, needed_of}
use Rattle.remainder.proofs.digits.needed.Given as goal

abbrev pub invariant-loop-k : goal.invariant-loop-k
invariant-loop-k l = searched (needed_step l.iq) none_needed l.k 5 (on tt) ≡ needed_of l.iq
