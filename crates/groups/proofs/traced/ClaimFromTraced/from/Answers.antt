use Rattle.groups.proofs.traced.ClaimFromTraced.from.Goals as goal

pub returns : goal.returns
returns c = rw c.code.ensures
