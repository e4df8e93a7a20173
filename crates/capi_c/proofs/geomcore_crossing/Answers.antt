-- The call has the contract.
use Rattle.capi_c.proofs.geomcore_crossing.Goals as goal

pub returns : goal.returns
returns c = c.geomcore_crossing.ensures
