use mathlib.Core.Path.{refl}
use Rattle.geometry.specs.Vector.{dot_of}
use Rattle.geometry.proofs.vector.Vector3D.dot.Goals as goal

pub returns : goal.returns
unfolding dot_of
returns c = refl
