-- The search goes on as the definition's does, run by run.
use mathlib.Core.Path.{◌≡◌, refl, ap, ◌∙◌}
use Prim.Native.Nat.{ℕ, ◌+◌, ◌/◌}
use native.Mathlib.Omega.{arith}
use lib.ListN.{length}
use Rattle.groups.specs.Groups.{width}
use Rattle.loops.specs.Any.{any_in}
use Rattle.loops.proofs.Any.{any_again, any_leave, any_done}
use Rattle.boxes.specs.Crosses.{run_length, run_at, runs_of, some_run}
use Rattle.boxes.proofs.Listed.{points_handed, run_handed}
use Rattle.boxes.proofs.marching.some_run.Goals as goal

pub loop-first-init : goal.loop-first-init
unfolding some_run
loop-first-init c = (refl, refl)

pub run_crosses-requires : goal.run_crosses-requires
run_crosses-requires c =
    let t = c.loop-first-test.true in
    let p = points_handed c.args.points.now c.loop-first.first c.run_from.ensures (omega arith) in
    omega (arith, p.0)

pub returns-then-run_crosses : goal.returns-then-run_crosses
returns-then-run_crosses c =
    let l = c.args.points.now in let first = c.loop-first.first in let t = c.loop-first-test.true in
    let e : run_at l (length l / width) c.args.b (first / run_length) ≡ c.run_crosses.result =
    run_handed l first c.args.b c.loop-first.invariant.1 (omega arith) (rw (← c.run_from.ensures) c.run_crosses.ensures) in
    any_leave (run_at l (length l / width) c.args.b) (first / run_length) (runs_of (length l / width)) (omega arith) (e ∙ c.if-run_crosses.true) c.loop-first.invariant.0

pub loop-first-preserved : goal.loop-first-preserved
loop-first-preserved c =
    let l = c.args.points.now in let first = c.loop-first.first in let t = c.loop-first-test.true in
    let e : run_at l (length l / width) c.args.b (first / run_length) ≡ c.run_crosses.result =
    run_handed l first c.args.b c.loop-first.invariant.1 (omega arith) (rw (← c.run_from.ensures) c.run_crosses.ensures) in
    let k : (first + run_length) / run_length ≡ first / run_length + 1 = omega arith in (
      ap (λ (j : ℕ). any_in (run_at l (length l / width) c.args.b) j (runs_of (length l / width))) k
          ∙ any_again (run_at l (length l / width) c.args.b) (first / run_length) (runs_of (length l / width)) (omega arith) (e ∙ c.if-run_crosses.false) c.loop-first.invariant.0,
      omega arith,
    )

-- the last run's end, with a run before it and without
pub returns-else-run_crosses : goal.returns-else-run_crosses
returns-else-run_crosses c =
    let l = c.args.points.now in let first = c.loop-first.first in let t = c.loop-first-test.true in
    let e : run_at l (length l / width) c.args.b (first / run_length) ≡ c.run_crosses.result =
    run_handed l first c.args.b c.loop-first.invariant.1 (omega arith) (rw (← c.run_from.ensures) c.run_crosses.ensures) in
    any_done (run_at l (length l / width) c.args.b) (first / run_length + 1) (runs_of (length l / width)) (omega arith)
    (any_again (run_at l (length l / width) c.args.b) (first / run_length) (runs_of (length l / width)) (omega arith) (e ∙ c.if-run_crosses.false) c.loop-first.invariant.0)

pub returns : goal.returns
returns c =
    let l = c.args.points.now in let first = c.loop-first.first in let t = c.loop-first-test.false in
    any_done (run_at l (length l / width) c.args.b) (first / run_length) (runs_of (length l / width)) (omega arith) c.loop-first.invariant.0
