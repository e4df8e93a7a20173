-- The call has the contract.
use Rattle.capi_c.proofs.geomcore_write_v1.Goals as goal

pub returns : goal.returns
returns c = c.geomcore_write_v1.ensures
