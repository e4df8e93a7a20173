use native.Mathlib.Omega.{arith}
use Rattle.remainder.proofs.Truncation.{cut_most}
use Rattle.remainder.proofs.machine.int.Goals as goal

pub overflow_cast-result : goal.overflow_cast-result
overflow_cast-result c = omega (arith, cut_most 31 c.args.x, c.truncated.ensures)

pub returns-clause-within : goal.returns-clause-within
returns-clause-within c = omega (arith, cut_most 31 c.args.x)
