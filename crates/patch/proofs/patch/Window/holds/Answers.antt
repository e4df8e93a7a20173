use mathlib.Core.Path.{refl}
use Rattle.loops.proofs.Choice.{pick_taken, pick_left, and_taken, and_left}
use Rattle.patch.specs.Patch.{window_holds}
use Rattle.patch.proofs.patch.Window.holds.Goals as goal

pub returns-then-self : goal.returns-then-self
unfolding window_holds
returns-then-self c = pick_taken _ c.if-self.true refl

pub returns-then-self-x : goal.returns-then-self-x
unfolding window_holds
returns-then-self-x c = pick_left _ c.if-self.false (and_taken refl c.if-self-x.true refl)

pub returns-else-self-x : goal.returns-else-self-x
unfolding window_holds
returns-else-self-x c = pick_left _ c.if-self.false (and_left _ refl c.if-self-x.false)
