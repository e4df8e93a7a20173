use Rattle.marching.specs.Leaving.{first_exit}
use Rattle.marching.proofs.leaving.first_exit.Goals as goal

pub returns : goal.returns
unfolding first_exit
returns c = rw (c.consider.ensures, c.consider-f2.ensures, c.consider-f1.ensures, c.consider-f0.ensures)
