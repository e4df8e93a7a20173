use Rattle.refusal.proofs.Laws.{number_not_0}
use Rattle.answer.specs.Answer.{answer_line}
use Rattle.answer.proofs.line_of.Goals as goal

pub returns-in-Ok : goal.returns-in-Ok
unfolding answer_line
returns-in-Ok c = rw (c.in-Ok.is, ← c.code.ensures) c.trace_line.ensures

pub returns-in-Err : goal.returns-in-Err
unfolding answer_line
returns-in-Err c = rw (c.in-Err.is, number_not_0, ← c.number.ensures) c.refused_line.ensures
