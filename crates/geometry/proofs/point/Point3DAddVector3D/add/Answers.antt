use mathlib.Core.Path.{refl}
use Rattle.geometry.specs.Point.{add_vector_of}
use Rattle.geometry.proofs.point.Point3DAddVector3D.add.Goals as goal

pub returns : goal.returns
unfolding add_vector_of
returns c = refl
