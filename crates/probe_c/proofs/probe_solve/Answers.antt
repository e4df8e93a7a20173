-- The call has the contract.
use Rattle.probe_c.proofs.probe_solve.Goals as goal

pub returns : goal.returns
returns c = c.probe_solve.ensures
