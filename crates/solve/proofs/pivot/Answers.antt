-- Each iteration keeps the better row, and its entry.
use Prim.Native.Nat.{◌≤◌, ◌<◌}
use native.Mathlib.Omega.{arith}
use Rattle.loops.proofs.Loop.{ranged_again, ranged_done}
use Rattle.solve.specs.Solve.{better}
use Rattle.solve.proofs.Laws.{better_kept, better_row, better_entry}
use Rattle.solve.proofs.pivot.Goals as goal

pub loop-row-preserved : goal.loop-row-preserved
loop-row-preserved g c =
    let n = g.row.N in
    let m = c.args.m.now in
    let col = c.args.col in
    let row = c.loop-row.row in
    let best = c.loop-row.best in
    let kept = c.loop-row.invariant in
    let e = better_row m col row best.row kept.held c.greater-best.ensures.row in
    record {
      so_far = ranged_again (better m col) row n c.loop-row-test.true e kept.so_far;
      held = better_entry m col row best.row kept.held c.greater-best.ensures.row c.greater-best.ensures.entry;
      below = better_kept (λ r. col ≤ r) m col row best.row e (omega arith) kept.below;
      within = better_kept (λ r. r < n) m col row best.row e c.loop-row-test.true kept.within;
    }

pub returns-clause-is : goal.returns-clause-is
returns-clause-is g c = ranged_done (better c.args.m.now c.args.col) c.loop-row.row g.row.N c.loop-row-test.false c.loop-row.invariant.so_far
