use Rattle.geometry.specs.Vector.{zero_vector}
use Rattle.example_nine.proofs.unit_frame.Goals as goal

pub returns : goal.returns
unfolding zero_vector
returns c = c.moved_frame.ensures
