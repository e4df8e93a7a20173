use mathlib.Core.Path.{◌≡◌, ap, ◌∙◌}
use Rattle.geometry.specs.declared.tolerance.Tolerance.{Tolerance}
use Rattle.boxes.specs.Crossing.{crossing_of}
use Rattle.capi.specs.Crossing.{crossed_word, tolerance_in, crossing_answer}
use Rattle.capi.proofs.geomcore_crossing.Goals as goal

pub returns-in_default : goal.returns-in_default
unfolding crossing_answer
returns-in_default c = rw (← c.box_given.ensures, c.in_default.is) c.number.ensures

pub returns : goal.returns
unfolding crossing_answer
returns c =
    let g = c.args in
    let answer : c.crossing.result ≡ crossing_of (tolerance_in g.confusion g.angular) g.buffer.now g.count c.in-Some.b =
    c.crossing.ensures.answer ∙ ap (λ (t : Tolerance). crossing_of t g.buffer.now g.count c.in-Some.b) c.tolerance-tol.ensures in
    rw (← c.box_given.ensures, c.in-Some.is) (c.crossed_word.ensures ∙ ap crossed_word answer)
