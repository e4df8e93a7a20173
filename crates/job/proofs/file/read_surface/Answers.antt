use Rattle.std.proofs.Common.{◌∙◌}
use borrow.Author.Tests.{le-ltb, lt-ltb}
use Rattle.job.specs.Layout.{surface_bytes}
use Rattle.job.specs.File.{surface_file}
use Rattle.job.proofs.Places.{surface_taken}
use Rattle.job.proofs.file.read_surface.Goals as goal

pub returns-in_default : goal.returns-in_default
unfolding surface_file
returns-in_default c = rw (lt-ltb _ surface_bytes c.in_default.ensures.cases)

pub returns : goal.returns
unfolding surface_file
returns c =
    let part = c.in-Some.ensures.cases in
    rw (le-ltb _ surface_bytes part.enough) (c.surface_at.ensures ∙ rw part.same (surface_taken c.args.bytes.now))
