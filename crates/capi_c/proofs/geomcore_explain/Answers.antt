-- The call has the contract.
use Rattle.capi_c.proofs.geomcore_explain.Goals as goal

pub returns : goal.returns
returns c = c.geomcore_explain.ensures
