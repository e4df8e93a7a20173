use Rattle.std.proofs.Common.{◌≡◌, ◌∙◌, rules}
use Rattle.refusal.specs.declared.Refusal.TheVariants as refusal
use Rattle.refusal.proofs.Order.{passed_then, refused_then, last_then, asked_as}
use Rattle.patch.specs.Patch.{fitness_of}
use Rattle.patch.proofs.patch.Patch.fitness.Goals as goal

pub returns-in_err-asked : goal.returns-in_err-asked
unfolding fitness_of
returns-in_err-asked c =
    let e : c.from_residual.result ≡ c.asked.result = search rules in
    e ∙ refused_then _ (asked_as refusal.Number c.asked.ensures c.numbers_fit.ensures) c.in_err-asked.was

pub returns-in_err-asked-2 : goal.returns-in_err-asked-2
unfolding fitness_of
returns-in_err-asked-2 c =
    let e : c.from_residual-in_err-asked-2.result ≡ c.asked-2.result = search rules in
    passed_then (asked_as refusal.Number c.asked.ensures c.numbers_fit.ensures) c.in_ok-asked.was (e ∙ refused_then _ (asked_as refusal.Size c.asked-2.ensures c.sizes_fit.ensures) c.in_err-asked-2.was)

pub returns-in_err-asked-3 : goal.returns-in_err-asked-3
unfolding fitness_of
returns-in_err-asked-3 c =
    let e : c.from_residual-in_err-asked-3.result ≡ c.asked-3.result = search rules in
    passed_then (asked_as refusal.Number c.asked.ensures c.numbers_fit.ensures) c.in_ok-asked.was (passed_then (asked_as refusal.Size c.asked-2.ensures c.sizes_fit.ensures) c.in_ok-asked-2.was (e ∙ refused_then _ (asked_as refusal.Window c.asked-3.ensures c.is_fit.ensures) c.in_err-asked-3.was))

pub returns-in_err-asked-4 : goal.returns-in_err-asked-4
unfolding fitness_of
returns-in_err-asked-4 c =
    let e : c.from_residual-in_err-asked-4.result ≡ c.asked-4.result = search rules in
    passed_then (asked_as refusal.Number c.asked.ensures c.numbers_fit.ensures) c.in_ok-asked.was (passed_then (asked_as refusal.Size c.asked-2.ensures c.sizes_fit.ensures) c.in_ok-asked-2.was (passed_then (asked_as refusal.Window c.asked-3.ensures c.is_fit.ensures) c.in_ok-asked-3.was (e ∙ refused_then _ (asked_as refusal.Window c.asked-4.ensures c.is_fit-2.ensures) c.in_err-asked-4.was)))

pub returns-in_err-asked-5 : goal.returns-in_err-asked-5
unfolding fitness_of
returns-in_err-asked-5 c =
    let e : c.from_residual-in_err-asked-5.result ≡ c.asked-5.result = search rules in
    passed_then (asked_as refusal.Number c.asked.ensures c.numbers_fit.ensures) c.in_ok-asked.was (passed_then (asked_as refusal.Size c.asked-2.ensures c.sizes_fit.ensures) c.in_ok-asked-2.was (passed_then (asked_as refusal.Window c.asked-3.ensures c.is_fit.ensures) c.in_ok-asked-3.was (passed_then (asked_as refusal.Window c.asked-4.ensures c.is_fit-2.ensures) c.in_ok-asked-4.was (e ∙ refused_then _ (asked_as refusal.TurnMark c.asked-5.ensures (rw c.u_is_angle.ensures at c.mark_fit.ensures)) c.in_err-asked-5.was))))

pub returns : goal.returns
unfolding fitness_of
returns c = passed_then (asked_as refusal.Number c.asked.ensures c.numbers_fit.ensures) c.in_ok-asked.was (passed_then (asked_as refusal.Size c.asked-2.ensures c.sizes_fit.ensures) c.in_ok-asked-2.was (passed_then (asked_as refusal.Window c.asked-3.ensures c.is_fit.ensures) c.in_ok-asked-3.was (passed_then (asked_as refusal.Window c.asked-4.ensures c.is_fit-2.ensures) c.in_ok-asked-4.was (passed_then (asked_as refusal.TurnMark c.asked-5.ensures (rw c.u_is_angle.ensures at c.mark_fit.ensures)) c.in_ok-asked-5.was (last_then (asked_as refusal.TurnMark c.asked-6.ensures (rw c.v_is_angle.ensures at c.mark_fit-2.ensures)))))))
