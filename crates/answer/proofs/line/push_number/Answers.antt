use native.Mathlib.Omega.{arith}
use Rattle.answer.proofs.Text.{decimal_is}
use Rattle.answer.proofs.line.push_number.Goals as goal

pub returns-clause-text : goal.returns-clause-text
returns-clause-text c = rw (c.push_str.ensures.bytes, c.format.ensures.text, decimal_is c.args.n (omega arith))
