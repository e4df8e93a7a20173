use Rattle.geometry.specs.Vector.{magnitude_of}
use Rattle.geometry.proofs.vector.Vector3D.magnitude.Goals as goal

pub returns : goal.returns
unfolding magnitude_of
returns c = rw (c.sqrt.ensures.answer, c.square_magnitude.ensures)
