use Rattle.patch.specs.Patch.{mark_fit}
use Rattle.patch.proofs.patch.mark_fit.Goals as goal

pub returns-then-turn : goal.returns-then-turn
unfolding mark_fit
returns-then-turn c = rw c.if-turn.true

pub returns-else-turn : goal.returns-else-turn
unfolding mark_fit
returns-else-turn c = rw c.if-turn.false
