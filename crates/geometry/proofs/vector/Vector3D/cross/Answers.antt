use mathlib.Core.Path.{refl}
use Rattle.geometry.specs.Vector.{cross_of}
use Rattle.geometry.proofs.vector.Vector3D.cross.Goals as goal

pub returns : goal.returns
unfolding cross_of
returns c = refl
