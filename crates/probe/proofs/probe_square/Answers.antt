use mathlib.Core.Path.{ap}
use borrow.Author.Tests.{lt-ltb, le-ltb}
use Rattle.probe.specs.Probe.{probed, probe_square_of}
use Rattle.probe.proofs.Rows.{fronted}
use Rattle.probe.proofs.probe_square.Goals as goal

pub returns-then-input-tol : goal.returns-then-input-tol
unfolding probe_square_of
returns-then-input-tol g c = rw (lt-ltb _ _ c.if-input-tol.true)

pub returns-then-output : goal.returns-then-output
unfolding probe_square_of
returns-then-output g c = rw (le-ltb _ _ c.if-input-tol.false, lt-ltb _ _ c.if-output.true)

pub returns-in-Ok : goal.returns-in-Ok
unfolding probe_square_of
returns-in-Ok g c =
    rw (le-ltb _ _ c.if-input-tol.false, le-ltb _ _ c.if-output.false)
    (rw (← c.matrix.ensures, ← c.numbers.ensures, ← c.solve_square.ensures.answer, c.in-Ok.is)
    (ap (probed 1) (fronted g.row.N c.in-Ok.x c.args.output.now c.if-output.false c.copy_from_slice.ensures.len c.copy_from_slice.ensures.after)))

pub returns-in-Err : goal.returns-in-Err
unfolding probe_square_of
returns-in-Err g c =
    rw (le-ltb _ _ c.if-input-tol.false, le-ltb _ _ c.if-output.false)
    (rw (← c.matrix.ensures, ← c.numbers.ensures, ← c.solve_square.ensures.answer, c.in-Err.is))
