-- The search goes on as the definition's does; `before` is the row before the one that is read.
use mathlib.Core.Path.{◌≡◌}
use Prim.Native.Nat.{◌-◌, ◌/◌, ◌≤◌}
use lib.ListN.{length}
use Rattle.loops.specs.Loop.{on, searched}
use Rattle.groups.specs.Groups.{width}
use Rattle.groups.specs.Row.{row_of}
use Rattle.certificate.specs.Check.{is_own, point_body, all_passed, points_verdict}
use Rattle.certificate.proofs.check.points_verdict.Given as goal

abbrev pub invariant-loop-i : goal.invariant-loop-i
invariant-loop-i l = (searched (point_body (is_own l.a) l.a l.b l.confusion (row_of l.points) l.end) all_passed l.i (length l.points / width) (on tt) ≡ points_verdict (is_own l.a) l.a l.b l.confusion (row_of l.points) (length l.points / width) l.end)
    × (l.before ≡ row_of l.points (l.i - 1))
    × (l.i ≤ length l.points / width)
