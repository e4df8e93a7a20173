use mathlib.Core.Path.{sym, ◌∙◌}
use Rattle.std.proofs.Common.{◌≡◌, Err, rules}
use Rattle.std.proofs.lemmas.List.{take-append-drop}
use Rattle.capi.proofs.Answers.{point_unread, point_short, point_refused, point_located}
use Rattle.capi.proofs.point.Goals as goal

pub returns-in_err-patch : goal.returns-in_err-patch
returns-in_err-patch c =
    let e : c.from_residual.result ≡ Err c.in_err-patch.field-0.0 = search rules in
    rw e (point_unread _ _ _ _ (sym c.read_surface.ensures ∙ c.in_err-patch.was))

pub returns-in_default : goal.returns-in_default
returns-in_default c = point_short _ _ _ _ (sym c.read_surface.ensures ∙ c.in_ok-patch.was) c.in_default.ensures.cases

pub returns-in_err-p : goal.returns-in_err-p
returns-in_err-p c =
    let chunk = c.in-Some.ensures.cases in
    let e : c.from_residual-in_err-p.result ≡ Err c.in_err-p.field-0.0 = search rules in
    rw (e, chunk.same, take-append-drop 3 c.args.out.now)
    (point_refused _ _ _ _ (sym c.read_surface.ensures ∙ c.in_ok-patch.was) chunk.enough c.point.ensures.answer c.in_err-p.was)

pub returns : goal.returns
returns c =
    rw c.put.ensures
    (point_located _ _ _ _ (sym c.read_surface.ensures ∙ c.in_ok-patch.was) c.in-Some.ensures.cases.enough c.point.ensures.answer c.in_ok-p.was)
