-- It is the point of the numbers read.
use Rattle.capi.proofs.corner.Goals as goal

pub returns : goal.returns
returns c = c.new.ensures
