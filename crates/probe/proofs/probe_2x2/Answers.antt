use mathlib.Core.Path.{ap}
use borrow.Author.Tests.{lt-ltb, le-ltb}
use Rattle.probe.specs.Probe.{probed, probe2_of}
use Rattle.probe.proofs.Rows.{fronted}
use Rattle.probe.proofs.probe_2x2.Goals as goal

pub returns-then-input-lt7 : goal.returns-then-input-lt7
unfolding probe2_of
returns-then-input-lt7 c = rw (lt-ltb _ _ c.if-input-lt7.true)

pub returns-then-output-lt2 : goal.returns-then-output-lt2
unfolding probe2_of
returns-then-output-lt2 c = rw (le-ltb _ _ c.if-input-lt7.false, lt-ltb _ _ c.if-output-lt2.true)

pub returns-in_default : goal.returns-in_default
unfolding probe2_of
returns-in_default c =
    rw (le-ltb _ _ c.if-input-lt7.false, le-ltb _ _ c.if-output-lt2.false)
    (rw (← c.matrix.ensures, ← c.numbers.ensures, ← c.solve_2x2.ensures, c.in_default.is))

pub returns : goal.returns
unfolding probe2_of
returns c =
    rw (le-ltb _ _ c.if-input-lt7.false, le-ltb _ _ c.if-output-lt2.false)
    (rw (← c.matrix.ensures, ← c.numbers.ensures, ← c.solve_2x2.ensures, c.in-Some.is)
    (ap (probed 1) (fronted 2 c.in-Some.x c.args.output.now c.if-output-lt2.false c.copy_from_slice.ensures.len c.copy_from_slice.ensures.after)))
