use Rattle.capi.proofs.geomcore_sqrt.Goals as goal

pub returns : goal.returns
returns c = c.sqrt.ensures
