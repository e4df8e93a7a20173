use mathlib.Core.Path.{refl}
use Rattle.loops.proofs.Choice.{pick_taken, pick_left}
use Rattle.patch.specs.Patch.{bounded_of}
use Rattle.patch.proofs.patch.Window.bounded.Goals as goal

pub returns-then-self : goal.returns-then-self
unfolding bounded_of
returns-then-self c = pick_taken _ c.if-self.true refl

pub returns-else-self : goal.returns-else-self
unfolding bounded_of
returns-else-self c = pick_left _ c.if-self.false c.clamp.ensures
