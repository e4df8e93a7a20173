use Rattle.geometry.specs.Vector.{magnitude_of}
use Rattle.geometry.proofs.vector.Vector3D.magnitude_at_most.Goals as goal

pub returns : goal.returns
unfolding magnitude_of
returns c = rw (c.at_most.ensures, c.square_magnitude.ensures)
