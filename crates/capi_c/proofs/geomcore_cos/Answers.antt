-- The call has the contract.
use Rattle.capi_c.proofs.geomcore_cos.Goals as goal

pub returns : goal.returns
returns c = c.geomcore_cos.ensures
