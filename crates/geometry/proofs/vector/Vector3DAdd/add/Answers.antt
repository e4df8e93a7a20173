use mathlib.Core.Path.{refl}
use Rattle.geometry.specs.Vector.{add_of}
use Rattle.geometry.proofs.vector.Vector3DAdd.add.Goals as goal

pub returns : goal.returns
unfolding add_of
returns c = refl
