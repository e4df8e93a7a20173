use Rattle.capi.proofs.geomcore_cos.Goals as goal

pub returns : goal.returns
returns c = c.cos.ensures
