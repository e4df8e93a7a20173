-- The call has the contract.
use Rattle.capi_c.proofs.geomcore_read_v1.Goals as goal

pub returns : goal.returns
returns c = c.geomcore_read_v1.ensures
