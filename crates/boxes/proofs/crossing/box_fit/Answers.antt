use mathlib.Core.Path.{◌≡◌, sym, ◌∙◌}
use mathlib.Core.Bool.{true}
use Rattle.geometry.specs.Point.{point_fit}
use Rattle.boxes.specs.Crossing.{box_fit}
use Rattle.boxes.proofs.crossing.box_fit.Goals as goal

pub returns-then-is_fit-2 : goal.returns-then-is_fit-2
unfolding box_fit
returns-then-is_fit-2 c =
    let b = c.args.b in
    let high : point_fit b.high ≡ true = sym c.is_fit-then-is_fit.ensures ∙ c.if-is_fit-2.true in
    rw (← c.is_fit.ensures, c.if-is_fit.true, high) c.sides_fit.ensures

pub returns-else-is_fit-2 : goal.returns-else-is_fit-2
unfolding box_fit
returns-else-is_fit-2 c =
    let b = c.args.b in
    let high : c.is_fit-then-is_fit.result ≡ point_fit b.high = c.is_fit-then-is_fit.ensures in
    rw (← c.is_fit.ensures, c.if-is_fit.true, ← high, c.if-is_fit-2.false)

pub returns-else-is_fit : goal.returns-else-is_fit
unfolding box_fit
returns-else-is_fit c = rw (← c.is_fit.ensures, c.if-is_fit.false)
