use Rattle.capi.proofs.geomcore_point.Goals as goal

pub returns : goal.returns
returns c = rw c.word.ensures c.point.ensures
