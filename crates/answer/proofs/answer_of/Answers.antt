use Rattle.std.proofs.Common.{◌≡◌, Err, rules}
use Rattle.answer.specs.Answer.{answer_of, lent_numbers}
use Rattle.answer.proofs.answer_of.Goals as goal

pub returns-in_err-asked : goal.returns-in_err-asked
unfolding answer_of
returns-in_err-asked c =
    let e : c.from_residual.result ≡ Err c.in_err-asked.field-0.0 = search rules in
    rw (e, ← c.read.ensures, c.in_err-asked.was)

pub returns : goal.returns
unfolding answer_of lent_numbers
returns c = rw (← c.read.ensures, c.in_ok-asked.was) c.trace.ensures.answer
