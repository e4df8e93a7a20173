use mathlib.Core.Path.{ap}
use Rattle.refusal.specs.declared.Numbers.{Numbers}
use Rattle.refusal.proofs.Refusal.number.Goals as goal

pub returns : goal.returns
returns c = ap (λ (n : Numbers). n.number) c.numbers.ensures
