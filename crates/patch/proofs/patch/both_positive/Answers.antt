use mathlib.Core.Path.{refl}
use Rattle.loops.proofs.Choice.{and_taken, and_left}
use Rattle.patch.specs.Patch.{both_positive}
use Rattle.patch.proofs.patch.both_positive.Goals as goal

pub returns-then-a : goal.returns-then-a
unfolding both_positive
returns-then-a c = and_taken refl c.if-a.true refl

pub returns-else-a : goal.returns-else-a
unfolding both_positive
returns-else-a c = and_left _ refl c.if-a.false
