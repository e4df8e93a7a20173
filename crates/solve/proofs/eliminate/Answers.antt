-- Each iteration eliminates a row, and its right side follows.
use Rattle.loops.proofs.Loop.{ranged_again, ranged_done}
use Rattle.solve.proofs.Laws.{row_eliminated_lem}
use Rattle.solve.proofs.eliminate.Goals as goal

pub loop-row-preserved : goal.loop-row-preserved
loop-row-preserved g c =
    let s = c.loop-row in
    ranged_again _ _ g.row.N c.loop-row-test.true (row_eliminated_lem g.row.N c.args.col s.row s.m s.b c.eliminate_row.ensures) s.invariant

pub returns : goal.returns
returns g c = ranged_done _ _ _ c.loop-row-test.false c.loop-row.invariant
