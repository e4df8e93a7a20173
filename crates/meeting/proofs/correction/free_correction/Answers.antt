use mathlib.Core.Path.{◌≡◌, sym, ap, ◌∙◌}
use Rattle.std.proofs.Common.{rules, Err}
use Rattle.meeting.specs.Correction.{minimum_norm, free_correction}
use Rattle.meeting.proofs.correction.free_correction.Goals as goal

pub returns-in_err-x : goal.returns-in_err-x
unfolding free_correction
returns-in_err-x c =
    let e : c.from_residual.result ≡ Err c.in_err-x.field-0.0 = search rules in
    rw (← c.normal_matrix.ensures) (e ∙ ap (minimum_norm c.args.c) (sym c.in_err-x.was ∙ c.solve_square.ensures.answer))

pub returns : goal.returns
unfolding free_correction
returns c =
    rw (c.dot-4.ensures, c.dot-3.ensures, c.dot-2.ensures, c.dot.ensures, c.new-y.ensures, ← c.normal_matrix.ensures)
    (ap (minimum_norm c.args.c) (sym c.in_ok-x.was ∙ c.solve_square.ensures.answer))
