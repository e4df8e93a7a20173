use mathlib.Core.Path.{refl}
use Rattle.geometry.specs.Vector.{vector_of}
use Rattle.geometry.proofs.vector.Vector3D.new.Goals as goal

pub returns : goal.returns
unfolding vector_of
returns c = refl
