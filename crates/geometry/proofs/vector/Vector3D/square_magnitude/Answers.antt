use mathlib.Core.Path.{refl}
use Rattle.geometry.specs.Vector.{square_magnitude_of}
use Rattle.geometry.proofs.vector.Vector3D.square_magnitude.Goals as goal

pub returns : goal.returns
unfolding square_magnitude_of
returns c = refl
