use Rattle.probe.specs.Steps.{probe_leaving}
use Rattle.probe.proofs.steps.probe_leaving.Goals as goal

pub returns-in-Some : goal.returns-in-Some
unfolding probe_leaving
returns-in-Some c = rw (← c.read-c.ensures, ← c.parameters-y.ensures, ← c.leaving.ensures, c.in-Some.is)

pub returns-in-None : goal.returns-in-None
unfolding probe_leaving
returns-in-None c = rw (← c.read-c.ensures, ← c.parameters-y.ensures, ← c.leaving.ensures, c.in-None.is)
