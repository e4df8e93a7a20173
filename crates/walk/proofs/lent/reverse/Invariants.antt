-- i points at each end are exchanged, those between are as they were
use mathlib.Core.Path.{◌≡◌}
use Prim.Native.Nat.{◌≤◌, ◌/◌}
use Rattle.walk.proofs.Reversal.{Reversing}
use Rattle.walk.proofs.lent.reverse.Given as goal

abbrev pub invariant-loop-i : goal.invariant-loop-i
invariant-loop-i l = Reversing l.k l.i l.initial.points l.points × ((l.i ≤ l.k / 2) × (l.i-end ≡ l.k / 2))
