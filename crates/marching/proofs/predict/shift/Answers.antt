use mathlib.Core.Path.{ap, ◌∙◌}
use Rattle.marching.specs.Predict.{or_zero}
use Rattle.marching.proofs.predict.shift.Goals as goal

pub returns : goal.returns
returns c =
    rw (← c.dot-uu.ensures, ← c.dot-uv.ensures, ← c.dot-vv.ensures, ← c.dot.ensures, ← c.dot-2.ensures)
    (c.unwrap_or.ensures ∙ ap or_zero c.solve_2x2.ensures)
