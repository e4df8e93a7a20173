use Rattle.std.proofs.Common.{◌≡◌, not, sym, ap, ◌∙◌, rules}
use Rattle.refusal.specs.declared.Refusal.TheVariants as refusal
use Rattle.refusal.proofs.Order.{passed_then, refused_then, last_then, asked_as, asked_held}
use Rattle.groups.specs.Groups.{width, holds_of}
use Rattle.groups.proofs.Groups.{holds_length}
use Rattle.boxes.specs.Crossing.{crossing_fitness}
use Rattle.boxes.proofs.crossing.crossing_fitness.Goals as goal

pub some_unfit-requires : goal.some_unfit-requires
some_unfit-requires c =
    let g = c.args in
    let held = asked_held (holds_of width g.points.now g.count) refusal.Lent (sym (asked_as refusal.Lent c.asked-2.ensures c.holds.ensures) ∙ c.in_ok-asked-2.was) in
    holds_length width g.points.now g.count held

pub returns-in_err-asked : goal.returns-in_err-asked
unfolding crossing_fitness
returns-in_err-asked c =
    let e : c.from_residual.result ≡ c.asked.result = search rules in
    e ∙ refused_then _ (asked_as refusal.Tolerance c.asked.ensures c.is_fit.ensures) c.in_err-asked.was

pub returns-in_err-asked-2 : goal.returns-in_err-asked-2
unfolding crossing_fitness
returns-in_err-asked-2 c =
    let e : c.from_residual-in_err-asked-2.result ≡ c.asked-2.result = search rules in
    passed_then (asked_as refusal.Tolerance c.asked.ensures c.is_fit.ensures) c.in_ok-asked.was (e ∙ refused_then _ (asked_as refusal.Lent c.asked-2.ensures c.holds.ensures) c.in_err-asked-2.was)

pub returns-in_err-asked-3 : goal.returns-in_err-asked-3
unfolding crossing_fitness
returns-in_err-asked-3 c =
    let e : c.from_residual-in_err-asked-3.result ≡ c.asked-3.result = search rules in
    passed_then (asked_as refusal.Tolerance c.asked.ensures c.is_fit.ensures) c.in_ok-asked.was (passed_then (asked_as refusal.Lent c.asked-2.ensures c.holds.ensures) c.in_ok-asked-2.was (e ∙ refused_then _ (asked_as refusal.Claim c.asked-3.ensures c.count_fits.ensures) c.in_err-asked-3.was))

pub returns-in_err-asked-4 : goal.returns-in_err-asked-4
unfolding crossing_fitness
returns-in_err-asked-4 c =
    let e : c.from_residual-in_err-asked-4.result ≡ c.asked-4.result = search rules in
    passed_then (asked_as refusal.Tolerance c.asked.ensures c.is_fit.ensures) c.in_ok-asked.was (passed_then (asked_as refusal.Lent c.asked-2.ensures c.holds.ensures) c.in_ok-asked-2.was (passed_then (asked_as refusal.Claim c.asked-3.ensures c.count_fits.ensures) c.in_ok-asked-3.was (e ∙ refused_then _ (asked_as refusal.Coordinate c.asked-4.ensures (ap not c.some_unfit.ensures)) c.in_err-asked-4.was)))

pub returns : goal.returns
unfolding crossing_fitness
returns c = passed_then (asked_as refusal.Tolerance c.asked.ensures c.is_fit.ensures) c.in_ok-asked.was (passed_then (asked_as refusal.Lent c.asked-2.ensures c.holds.ensures) c.in_ok-asked-2.was (passed_then (asked_as refusal.Claim c.asked-3.ensures c.count_fits.ensures) c.in_ok-asked-3.was (passed_then (asked_as refusal.Coordinate c.asked-4.ensures (ap not c.some_unfit.ensures)) c.in_ok-asked-4.was (last_then (asked_as refusal.BoxNumber c.asked-5.ensures c.box_fit.ensures)))))
