use Rattle.step.specs.Attempt.{kept_of}
use Rattle.step.proofs.attempt.kept.Goals as goal

pub returns-then-chord-h : goal.returns-then-chord-h
unfolding kept_of
returns-then-chord-h c = rw c.if-chord-h.true

pub returns-else-chord-h : goal.returns-else-chord-h
unfolding kept_of
returns-else-chord-h c = rw c.if-chord-h.false
