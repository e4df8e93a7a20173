use Rattle.meeting.specs.Newton.{meet_of}
use Rattle.meeting.proofs.Rounds.{newton_promised}
use Rattle.meeting.proofs.newton.meet.Goals as goal

pub returns : goal.returns
unfolding meet_of
returns c = newton_promised _ _ _ _ _ (rw (c.newton.ensures, c.within_bounds.ensures))
