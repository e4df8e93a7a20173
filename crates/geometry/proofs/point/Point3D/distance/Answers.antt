use Rattle.geometry.specs.Point.{distance_of}
use Rattle.geometry.proofs.point.Point3D.distance.Goals as goal

pub returns : goal.returns
unfolding distance_of
returns c = rw c.sqrt.ensures.answer
