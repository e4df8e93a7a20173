use Rattle.capi.proofs.geomcore_sin.Goals as goal

pub returns : goal.returns
returns c = c.sin.ensures
