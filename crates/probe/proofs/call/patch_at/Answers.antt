use Rattle.probe.specs.Call.{patch_from}
use Rattle.probe.proofs.call.patch_at.Goals as goal

pub returns : goal.returns
unfolding patch_from
returns c = rw (c.window-v.ensures, c.window-u.ensures, c.surface-surface.ensures, c.kind.ensures, c.frame-f.ensures)
