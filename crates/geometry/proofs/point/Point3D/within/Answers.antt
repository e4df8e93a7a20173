use Rattle.geometry.specs.Point.{distance_of, difference_of}
use Rattle.geometry.specs.Vector.{magnitude_of, square_magnitude_of}
use Rattle.geometry.proofs.point.Point3D.within.Goals as goal

pub returns : goal.returns
unfolding distance_of magnitude_of square_magnitude_of difference_of
returns c = rw (c.magnitude_at_most.ensures, c.sub.ensures)
