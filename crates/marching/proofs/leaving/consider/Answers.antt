use mathlib.Core.Path.{refl}
use Rattle.loops.proofs.Choice.{pick_taken, pick_left}
use Rattle.marching.specs.Leaving.{consider_of}
use Rattle.marching.proofs.leaving.consider.Goals as goal
use Rattle.marching.proofs.leaving.consider.Goals.{then-window-y, else-window-y+then-y-window}

pub returns-then-window : goal.returns-then-window
unfolding consider_of
returns-then-window c = pick_taken _ c.if-window.true refl

pub returns-else-y-window : goal.returns-else-y-window
unfolding consider_of
returns-else-y-window c = pick_left _ c.if-window.false (pick_left _ c.if-window-y.false (pick_left _ c.if-y-window.false refl))

pub returns : goal.returns
unfolding consider_of
returns c = elim c.if-window-y.branch [
  | then-window-y w ↦ pick_left _ c.if-window.false (pick_taken _ w.if-window-y.true (rw w.bound-is at c.lesser.ensures))
  | else-window-y+then-y-window w ↦ pick_left _ c.if-window.false (pick_left _ w.if-window-y.false (pick_taken _ w.if-y-window.true (rw w.bound-is at c.lesser.ensures)))
]
