use Rattle.std.proofs.Common.{◌≡◌, Err, sym, ◌∙◌, rules}
use Rattle.std.specs.Float.Ieee.Scale.{finite}
use Rattle.refusal.specs.declared.Refusal.TheVariants as refusal
use Rattle.refusal.proofs.Order.{asked_held, asked_failed, asked_as}
use Rattle.patch.specs.Located.{located_of}
use Rattle.patch.proofs.point.point.Goals as goal

pub returns-in_err-fitness : goal.returns-in_err-fitness
unfolding located_of
returns-in_err-fitness c =
    let e : c.from_residual.result ≡ Err c.in_err-fitness.field-0.0 = search rules in
    rw (e, ← c.fitness.ensures, c.in_err-fitness.was)

pub returns-in_err-asked : goal.returns-in_err-asked
unfolding located_of
returns-in_err-asked c =
    let e : c.from_residual-in_err-asked.result ≡ Err c.in_err-asked.field-0.0 = search rules in
    let f = asked_failed (finite c.args.u) refusal.Parameter (sym (asked_as refusal.Parameter c.asked.ensures c.is_finite.ensures) ∙ c.in_err-asked.was) in
    rw (e, ← c.fitness.ensures, c.in_ok-fitness.was, f.0, f.1)

pub returns-in_err-asked-2 : goal.returns-in_err-asked-2
unfolding located_of
returns-in_err-asked-2 c =
    let e : c.from_residual-in_err-asked-2.result ≡ Err c.in_err-asked-2.field-0.0 = search rules in
    let u = asked_held (finite c.args.u) refusal.Parameter (sym (asked_as refusal.Parameter c.asked.ensures c.is_finite.ensures) ∙ c.in_ok-asked.was) in
    let f = asked_failed (finite c.args.v) refusal.Parameter (sym (asked_as refusal.Parameter c.asked-2.ensures c.is_finite-2.ensures) ∙ c.in_err-asked-2.was) in
    rw (e, ← c.fitness.ensures, c.in_ok-fitness.was, u, f.0, f.1)

pub returns : goal.returns
unfolding located_of
returns c =
    let u = asked_held (finite c.args.u) refusal.Parameter (sym (asked_as refusal.Parameter c.asked.ensures c.is_finite.ensures) ∙ c.in_ok-asked.was) in
    let v = asked_held (finite c.args.v) refusal.Parameter (sym (asked_as refusal.Parameter c.asked-2.ensures c.is_finite-2.ensures) ∙ c.in_ok-asked-2.was) in
    rw (c.eval_point.ensures, ← c.fitness.ensures, c.in_ok-fitness.was, u, v)
