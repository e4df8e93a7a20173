use mathlib.Core.Path.{ap}
use lib.ListN.{length}
use borrow.Author.Tests.{lt-ltb, le-ltb}
use Rattle.probe.specs.Probe.{probed}
use Rattle.probe.specs.Stretch.{put_stretch}
use Rattle.probe.proofs.Rows.{fronted}
use Rattle.probe.proofs.stretch.put_stretch.Goals as goal

pub returns-then-out-n : goal.returns-then-out-n
unfolding put_stretch
returns-then-out-n c = rw (lt-ltb _ _ c.if-out-n.true)

pub returns : goal.returns
unfolding put_stretch
returns c =
    let s = c.args.stretch.now in
    rw (le-ltb _ _ c.if-out-n.false)
    (ap (probed (length s)) (fronted (length s) s c.args.out.now c.if-out-n.false c.copy_from_slice.ensures.len c.copy_from_slice.ensures.after))
