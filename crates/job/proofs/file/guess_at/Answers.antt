use Rattle.job.specs.Layout.{guess_place}
use Rattle.job.specs.File.{guess_at}
use Rattle.job.proofs.Parts.{four_numbers}
use Rattle.job.proofs.file.guess_at.Goals as goal

pub returns : goal.returns
unfolding guess_at
returns c = rw (c.numbers.ensures, four_numbers c.args.bytes.now guess_place)
