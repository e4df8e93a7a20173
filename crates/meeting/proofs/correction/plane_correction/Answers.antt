use mathlib.Core.Path.{◌≡◌, ap, sym, ◌∙◌}
use Rattle.std.proofs.Common.{rules, Err}
use Rattle.meeting.specs.Correction.{by_four, plane_correction}
use Rattle.meeting.proofs.correction.plane_correction.Goals as goal

pub returns-in_err-u1 : goal.returns-in_err-u1
unfolding plane_correction
returns-in_err-u1 c =
    let e : c.from_residual.result ≡ Err c.in_err-u1.field-0.0 = search rules in
    let h = rw (c.rows.ensures, c.dot.ensures, c.dot-2.ensures) at (sym c.in_err-u1.was ∙ c.solve_square.ensures.answer) in
    e ∙ ap by_four h

pub returns : goal.returns
unfolding plane_correction
returns c = ap by_four (rw (c.rows.ensures, c.dot.ensures, c.dot-2.ensures) at (sym c.in_ok-u1.was ∙ c.solve_square.ensures.answer))
