-- The search goes on as the definition's does, run by run.
use mathlib.Core.Path.{◌≡◌}
use Prim.Native.Nat.{◌/◌, ◌%◌}
use lib.ListN.{length}
use Rattle.groups.specs.Groups.{width}
use Rattle.loops.specs.Any.{any_in}
use Rattle.boxes.specs.Crosses.{run_length, run_at, runs_of, some_run}
use Rattle.boxes.proofs.marching.some_run.Given as goal

abbrev pub invariant-loop-first : goal.invariant-loop-first
invariant-loop-first l =
    (any_in (run_at l.points (length l.points / width) l.b) (l.first / run_length) (runs_of (length l.points / width)) ≡ some_run l.points (length l.points / width) l.b)
    × (l.first % run_length ≡ 0)
