use Rattle.meeting.specs.Newton.{land_of}
use Rattle.meeting.proofs.Rounds.{newton_promised}
use Rattle.meeting.proofs.newton.land.Goals as goal

pub returns : goal.returns
unfolding land_of
returns c = newton_promised _ _ _ _ _ (rw (c.newton.ensures, c.with_parameter-start.ensures, c.within_bounds.ensures))
