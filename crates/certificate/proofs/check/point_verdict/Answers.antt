use Rattle.std.proofs.Common.{◌≡◌, ◌∙◌, rules}
use Rattle.refusal.specs.declared.Refusal.TheVariants as refusal
use Rattle.refusal.proofs.Order.{passed_then, refused_then, last_then, asked_as}
use Rattle.certificate.specs.Check.{point_verdict}
use Rattle.certificate.proofs.check.point_verdict.Goals as goal

pub returns-in_err-asked : goal.returns-in_err-asked
unfolding point_verdict
returns-in_err-asked c =
    let e : c.from_residual.result ≡ c.asked.result = search rules in
    e ∙ refused_then _ (asked_as (refusal.OutsideWindow c.args.i) c.asked.ensures c.inside.ensures) c.in_err-asked.was

pub returns-in_err-asked-2 : goal.returns-in_err-asked-2
unfolding point_verdict
returns-in_err-asked-2 c =
    let e : c.from_residual-in_err-asked-2.result ≡ c.asked-2.result = search rules in
    passed_then (asked_as (refusal.OutsideWindow c.args.i) c.asked.ensures c.inside.ensures) c.in_ok-asked.was (e ∙ refused_then _ (asked_as (refusal.NotOwnPoint c.args.i) c.asked-2.ensures (rw (c.point.ensures, c.eval_point-fresh.ensures) at c.own.ensures)) c.in_err-asked-2.was)

pub returns-in_err-asked-3 : goal.returns-in_err-asked-3
unfolding point_verdict
returns-in_err-asked-3 c =
    let e : c.from_residual-in_err-asked-3.result ≡ c.asked-3.result = search rules in
    passed_then (asked_as (refusal.OutsideWindow c.args.i) c.asked.ensures c.inside.ensures) c.in_ok-asked.was (passed_then (asked_as (refusal.NotOwnPoint c.args.i) c.asked-2.ensures (rw (c.point.ensures, c.eval_point-fresh.ensures) at c.own.ensures)) c.in_ok-asked-2.was (e ∙ refused_then _ (asked_as (refusal.Gap c.args.i) c.asked-3.ensures (rw (c.eval_point-fresh.ensures, c.eval_point-other.ensures) at c.within.ensures)) c.in_err-asked-3.was))

pub returns : goal.returns
unfolding point_verdict
returns c = passed_then (asked_as (refusal.OutsideWindow c.args.i) c.asked.ensures c.inside.ensures) c.in_ok-asked.was (passed_then (asked_as (refusal.NotOwnPoint c.args.i) c.asked-2.ensures (rw (c.point.ensures, c.eval_point-fresh.ensures) at c.own.ensures)) c.in_ok-asked-2.was (passed_then (asked_as (refusal.Gap c.args.i) c.asked-3.ensures (rw (c.eval_point-fresh.ensures, c.eval_point-other.ensures) at c.within.ensures)) c.in_ok-asked-3.was (last_then (asked_as (refusal.Chord c.args.i) c.asked-4.ensures c.chord_fits.ensures))))
