use mathlib.Core.Path.{◌≡◌, ap, sym, ◌∙◌}
use lib.Dec.{lit<}
use Rattle.std.proofs.Common.{rules, Err}
use Rattle.meeting.specs.Correction.{by_three, pin_correction}
use Rattle.meeting.proofs.correction.pin_correction.Goals as goal

pub returns-in_err-d : goal.returns-in_err-d
unfolding pin_correction
returns-in_err-d c =
    let free = c.free.ensures.each in
    let e : c.from_residual.result ≡ Err c.in_err-d.field-0.0 = search rules in
    let h = rw (free 0 (lit< tt), free 1 (lit< tt), free 2 (lit< tt)) at (sym c.in_err-d.was ∙ c.solve_square.ensures.answer) in
    e ∙ ap (by_three c.args.pin) h

pub returns : goal.returns
unfolding pin_correction
returns c =
    let free = c.free.ensures.each in
    rw c.placed.ensures (ap (by_three c.args.pin) (rw (free 0 (lit< tt), free 1 (lit< tt), free 2 (lit< tt)) at (sym c.in_ok-d.was ∙ c.solve_square.ensures.answer)))
