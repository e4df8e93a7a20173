-- The loop's invariant: the trials left give what all of them give.
use mathlib.Core.Path.{refl, sym}
use Rattle.loops.proofs.Choice.{pick_taken, pick_left}
use Rattle.loops.proofs.Loop.{searched_again, searched_leave, searched_done}
use Rattle.meeting.specs.Newton.{most_trials, trials_of}
use Rattle.meeting.proofs.newton.trials.Goals as goal

pub loop-init : goal.loop-init
unfolding trials_of
loop-init c = refl

pub returns-then-t-s : goal.returns-then-t-s
returns-then-t-s c =
    searched_leave _ _ _ most_trials c.loop-test.true
    (rw (← c.shifted.ensures, ← c.within_bounds-y.ensures, ← c.residual_at-t.ensures) (sym (pick_taken _ c.if-t-s.true refl)))
    c.loop.invariant

pub loop-preserved : goal.loop-preserved
loop-preserved c =
    searched_again _ _ _ most_trials c.loop-test.true
    (rw (← c.shifted.ensures, ← c.within_bounds-y.ensures, ← c.residual_at-t.ensures) (sym (pick_left _ c.if-t-s.false refl)))
    c.loop.invariant

pub returns : goal.returns
returns c = searched_done _ _ _ most_trials c.loop-test.false c.loop.invariant
