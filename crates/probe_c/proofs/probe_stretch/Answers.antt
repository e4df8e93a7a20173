-- The call has the contract.
use Rattle.probe_c.proofs.probe_stretch.Goals as goal

pub returns : goal.returns
returns c = c.probe_stretch.ensures
