use Rattle.capi.proofs.geomcore_atan2.Goals as goal

pub returns : goal.returns
returns c = c.atan2.ensures
