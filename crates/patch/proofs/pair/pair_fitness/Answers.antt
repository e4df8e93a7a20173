use Rattle.std.proofs.Common.{◌≡◌, ◌∙◌, rules}
use Rattle.refusal.specs.declared.Refusal.TheVariants as refusal
use Rattle.refusal.proofs.Order.{passed_then, refused_then, last_then, asked_as}
use Rattle.patch.specs.Pair.{pair_fitness}
use Rattle.patch.proofs.pair.pair_fitness.Goals as goal

pub returns-in_err-fitness : goal.returns-in_err-fitness
unfolding pair_fitness
returns-in_err-fitness c =
    let e : c.from_residual.result ≡ c.fitness.result = search rules in
    e ∙ refused_then _ c.fitness.ensures c.in_err-fitness.was

pub returns-in_err-fitness-2 : goal.returns-in_err-fitness-2
unfolding pair_fitness
returns-in_err-fitness-2 c =
    let e : c.from_residual-in_err-fitness-2.result ≡ c.fitness-2.result = search rules in
    passed_then c.fitness.ensures c.in_ok-fitness.was (e ∙ refused_then _ c.fitness-2.ensures c.in_err-fitness-2.was)

pub returns : goal.returns
unfolding pair_fitness
returns c =
    passed_then c.fitness.ensures c.in_ok-fitness.was
    (passed_then c.fitness-2.ensures c.in_ok-fitness-2.was (last_then (asked_as refusal.Tolerance c.asked.ensures c.is_fit.ensures)))
