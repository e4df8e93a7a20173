use Rattle.number.proofs.magnitude_at_most.Goals as goal

pub returns : goal.returns
returns c = rw c.abs.ensures
