use Rattle.boxes.specs.Crosses.{grown_of}
use Rattle.boxes.proofs.marching.grown.Goals as goal

pub returns : goal.returns
unfolding grown_of
returns c = rw (c.new-2.ensures, c.new.ensures)
