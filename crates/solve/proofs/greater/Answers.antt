use mathlib.Core.Path.{◌≡◌, refl}
use mathlib.Core.Bool.{true, false}
use Rattle.loops.proofs.Choice.{pick_taken, pick_left}
use Rattle.solve.specs.Solve.{displaces}
use Rattle.solve.proofs.greater.Goals as goal

pub returns-then-abs : goal.returns-then-abs
returns-then-abs c =
    let d : displaces c.args.held.entry c.args.next.entry ≡ true = rw (← c.abs-2.ensures, ← c.abs.ensures) c.if-abs.true in
    record { row = pick_taken _ d refl; entry = pick_taken _ d refl }

pub returns-else-abs : goal.returns-else-abs
returns-else-abs c =
    let d : displaces c.args.held.entry c.args.next.entry ≡ false = rw (← c.abs-2.ensures, ← c.abs.ensures) c.if-abs.false in
    record { row = pick_left _ d refl; entry = pick_left _ d refl }
