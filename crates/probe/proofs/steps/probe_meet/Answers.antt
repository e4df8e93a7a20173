use native.Mathlib.Omega.{arith}
use Rattle.meeting.proofs.Rounds.{unmet_more}
use Rattle.probe.specs.Steps.{probe_meet}
use Rattle.probe.proofs.steps.probe_meet.Goals as goal

pub put_met-requires : goal.put_met-requires
put_met-requires c = λ q e. unmet_more q (omega arith) (c.meet.ensures.unmet q e)

pub returns : goal.returns
unfolding probe_meet
returns c = rw (← c.read-c.ensures, ← c.meet.ensures.answer) c.put_met.ensures
