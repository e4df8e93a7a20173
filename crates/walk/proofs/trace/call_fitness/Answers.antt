use Rattle.std.proofs.Common.{◌≡◌, true, ◌∙◌, sym, rules}
use Rattle.refusal.specs.declared.Refusal.TheVariants as refusal
use Rattle.refusal.proofs.Order.{passed_then, refused_then, last_then, asked_as, asked_held}
use Rattle.walk.specs.Trace.{cap_fits, call_fitness}
use Rattle.walk.proofs.Calls.{cap_least}
use Rattle.walk.proofs.trace.call_fitness.Goals as goal
use Rattle.walk.proofs.trace.call_fitness.Goals.{In_ok-asked-2}

-- the cap is none too large for the arithmetic on it
module _ (c : In_ok-asked-2) where
  capped : cap_fits c.args.cap ≡ true
  capped = asked_held (cap_fits c.args.cap) refusal.StepCap (sym (asked_as refusal.StepCap c.asked-2.ensures c.cap_fits.ensures) ∙ c.in_ok-asked-2.was)

pub overflow_mul-cap : goal.overflow_mul-cap
overflow_mul-cap c =
    let k = cap_least _ (capped (goal.at.overflow_mul-cap c).In_ok-asked-2) in
    search rules

pub overflow_add-cap : goal.overflow_add-cap
overflow_add-cap c =
    let k = cap_least _ (capped (goal.at.overflow_add-cap c).In_ok-asked-2) in
    search rules

pub returns-in_err-pair_fitness : goal.returns-in_err-pair_fitness
unfolding call_fitness
returns-in_err-pair_fitness c =
    let e : c.from_residual.result ≡ c.pair_fitness.result = search rules in
    e ∙ refused_then _ c.pair_fitness.ensures c.in_err-pair_fitness.was

pub returns-in_err-asked : goal.returns-in_err-asked
unfolding call_fitness
returns-in_err-asked c =
    let e : c.from_residual-in_err-asked.result ≡ c.asked.result = search rules in
    passed_then c.pair_fitness.ensures c.in_ok-pair_fitness.was (e ∙ refused_then _ (asked_as refusal.Parameter c.asked.ensures c.guess_finite.ensures) c.in_err-asked.was)

pub returns-in_err-asked-2 : goal.returns-in_err-asked-2
unfolding call_fitness
returns-in_err-asked-2 c =
    let e : c.from_residual-in_err-asked-2.result ≡ c.asked-2.result = search rules in
    passed_then c.pair_fitness.ensures c.in_ok-pair_fitness.was (passed_then (asked_as refusal.Parameter c.asked.ensures c.guess_finite.ensures) c.in_ok-asked.was (e ∙ refused_then _ (asked_as refusal.StepCap c.asked-2.ensures c.cap_fits.ensures) c.in_err-asked-2.was))

pub returns : goal.returns
unfolding call_fitness
returns c = passed_then c.pair_fitness.ensures c.in_ok-pair_fitness.was (passed_then (asked_as refusal.Parameter c.asked.ensures c.guess_finite.ensures) c.in_ok-asked.was (passed_then (asked_as refusal.StepCap c.asked-2.ensures c.cap_fits.ensures) c.in_ok-asked-2.was (last_then (asked_as refusal.Lent c.asked-3.ensures c.holds.ensures))))
