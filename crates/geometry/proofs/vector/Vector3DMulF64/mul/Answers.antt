use mathlib.Core.Path.{refl}
use Rattle.geometry.specs.Vector.{scale_of}
use Rattle.geometry.proofs.vector.Vector3DMulF64.mul.Goals as goal

pub returns : goal.returns
unfolding scale_of
returns c = refl
