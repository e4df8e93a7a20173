-- The call has the contract.
use Rattle.capi_c.proofs.geomcore_check.Goals as goal

pub returns : goal.returns
returns c = c.geomcore_check.ensures
