use Rattle.wire.specs.Wire.{numbers_from}
use Rattle.job.specs.File.{window_at, patch_at}
use Rattle.job.proofs.Parts.{surface_by_number, u_marked, v_marked}
use Rattle.job.proofs.file.patch_at.Goals as goal

pub returns : goal.returns
unfolding patch_at window_at numbers_from
returns c =
    rw (c.numbers-2.ensures, v_marked c.args.marks, c.numbers.ensures, u_marked c.args.marks)
    (rw (surface_by_number, c.surface-surface.ensures, c.number-second.ensures, c.number-first.ensures, c.frame-frame.ensures))
