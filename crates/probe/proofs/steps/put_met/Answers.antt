-- The number is a byte, the round at most 32 and the column at most 4, so the word has room for all three.
use Prim.Native.Nat.{◌≤◌}
use native.Mathlib.Omega.{arith}
use Rattle.refusal.proofs.Laws.{number_small}
use Rattle.meeting.specs.Newton.{most_rounds}
use Rattle.meeting.proofs.Rounds.{unmet_round, unmet_column}
use Rattle.probe.proofs.steps.put_met.Goals as goal
use Rattle.probe.proofs.steps.put_met.Goals.{After-numbers-n}

number_fits : (c : After-numbers-n) → c.numbers-n.result.number ≤ 255
number_fits c = rw c.numbers-n.ensures (number_small c.in-Refused.refusal)

round_fits : (c : After-numbers-n) → c.numbers-n.result.round ≤ most_rounds
round_fits c =
    rw c.numbers-n.ensures (unmet_round _ (c.requires _ c.in-Refused.is))

column_fits : (c : After-numbers-n) → c.numbers-n.result.column ≤ 4
column_fits c =
    rw c.numbers-n.ensures (unmet_column _ (c.requires _ c.in-Refused.is))

pub overflow_mul-result : goal.overflow_mul-result
overflow_mul-result c = omega (arith, number_fits (goal.at.overflow_mul-result c).After-numbers-n)

pub overflow_mul-result-in-Refused : goal.overflow_mul-result-in-Refused
overflow_mul-result-in-Refused c = omega (arith, round_fits (goal.at.overflow_mul-result-in-Refused c).After-numbers-n)

pub overflow_add-result : goal.overflow_add-result
overflow_add-result c = omega (arith, number_fits (goal.at.overflow_add-result c).After-numbers-n, round_fits (goal.at.overflow_add-result c).After-numbers-n)

pub overflow_mul-result-in-Refused-2 : goal.overflow_mul-result-in-Refused-2
overflow_mul-result-in-Refused-2 c = omega (arith, column_fits (goal.at.overflow_mul-result-in-Refused-2 c).After-numbers-n)

pub overflow_add-result-in-Refused : goal.overflow_add-result-in-Refused
overflow_add-result-in-Refused c = omega (arith, number_fits (goal.at.overflow_add-result-in-Refused c).After-numbers-n, round_fits (goal.at.overflow_add-result-in-Refused c).After-numbers-n, column_fits (goal.at.overflow_add-result-in-Refused c).After-numbers-n)

pub returns-in-At : goal.returns-in-At
returns-in-At c = rw (c.in-At.is, ← c.put_parameters.ensures)

pub returns-in-Refused : goal.returns-in-Refused
returns-in-Refused c = rw (c.in-Refused.is, c.numbers-n.ensures)
