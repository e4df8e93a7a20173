use Prim.Native.Nat.{◌<◌}
use native.Mathlib.Omega.{arith}
use Rattle.capi.specs.Trace.{traced_word}
use Rattle.capi.proofs.Words.{number_fits, line_fits, added_told}
use Rattle.capi.proofs.traced_word.Goals as goal
use Rattle.capi.proofs.traced_word.Goals.{After-numbers-n}

number_byte : (c : After-numbers-n) → c.numbers-n.result.number < 256
number_byte c = rw c.numbers-n.ensures (number_fits c.in-Err.refusal)

added_small : (c : After-numbers-n) → (c.numbers-n.result.round < 256) × (c.numbers-n.result.column < 65536)
added_small c =
    rw c.numbers-n.ensures (added_told c.in-Err.is c.requires)

pub line_word-requires : goal.line_word-requires
line_word-requires c = let h = line_fits c.in-Ok.is c.requires in (h.0, h.1.0)

pub overflow_mul-result : goal.overflow_mul-result
overflow_mul-result c = let h = added_small (goal.at.overflow_mul-result c).After-numbers-n in omega (arith, h.0)

pub overflow_add-result : goal.overflow_add-result
overflow_add-result c = let h = added_small (goal.at.overflow_add-result c).After-numbers-n in omega (arith, number_byte (goal.at.overflow_add-result c).After-numbers-n, h.0)

pub overflow_mul-result-in-Err : goal.overflow_mul-result-in-Err
overflow_mul-result-in-Err c = let h = added_small (goal.at.overflow_mul-result-in-Err c).After-numbers-n in omega (arith, h.1)

pub overflow_add-result-in-Err : goal.overflow_add-result-in-Err
overflow_add-result-in-Err c = let h = added_small (goal.at.overflow_add-result-in-Err c).After-numbers-n in omega (arith, number_byte (goal.at.overflow_add-result-in-Err c).After-numbers-n, h.0, h.1)

pub returns-in-Ok : goal.returns-in-Ok
unfolding traced_word
returns-in-Ok c = rw (c.in-Ok.is) (omega (arith, c.line_word.ensures))

pub returns-in-Err : goal.returns-in-Err
unfolding traced_word
returns-in-Err c = rw (c.in-Err.is, c.numbers-n.ensures)
