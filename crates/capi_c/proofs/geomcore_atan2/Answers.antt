-- The call has the contract.
use Rattle.capi_c.proofs.geomcore_atan2.Goals as goal

pub returns : goal.returns
returns c = c.geomcore_atan2.ensures
