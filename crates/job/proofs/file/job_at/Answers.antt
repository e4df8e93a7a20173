use Rattle.job.specs.File.{job_at}
use Rattle.job.proofs.file.job_at.Goals as goal

pub returns : goal.returns
unfolding job_at
returns c = rw (c.uint-cap.ensures.value, c.guess_at-guess.ensures, c.number-angular.ensures, c.number-confusion.ensures)
