use Rattle.probe.specs.Call.{call_from}
use Rattle.probe.proofs.call.read.Goals as goal

pub returns : goal.returns
unfolding call_from
returns c = rw (c.parameters-x.ensures, c.patch_at-b.ensures, c.patch_at-a.ensures)
