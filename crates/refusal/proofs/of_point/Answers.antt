use Rattle.refusal.proofs.of_point.Goals as goal

pub returns : goal.returns
returns c = rw c.alone.ensures
