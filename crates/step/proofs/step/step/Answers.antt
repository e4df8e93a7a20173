use Rattle.step.specs.Step.{step_of}
use Rattle.step.proofs.step.step.Goals as goal

pub returns-in-Some-Inner : goal.returns-in-Some-Inner
unfolding step_of
returns-in-Some-Inner c = rw (c.inner_step.ensures, ← c.shorten.ensures, c.in-Some-Inner.is, c.in-Some-Inner.field-0-is)

pub returns-in-Some-Edge : goal.returns-in-Some-Edge
unfolding step_of
returns-in-Some-Edge c = rw (c.edge_step.ensures, ← c.shorten.ensures, c.in-Some-Edge.is, c.in-Some-Edge.field-0-is)

pub returns-in-None : goal.returns-in-None
unfolding step_of
returns-in-None c = rw (← c.shorten.ensures, c.in-None.is)
