use mathlib.Core.Path.{refl}
use Rattle.remainder.proofs.too_few.Goals as goal

pub returns-then-z : goal.returns-then-z
returns-then-z c = rw (c.joined.ensures, c.if-z.true) refl

pub returns-else-z : goal.returns-else-z
returns-else-z c = rw c.if-z.false refl
