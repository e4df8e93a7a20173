use mathlib.Core.Path.{refl}
use Rattle.geometry.specs.Vector.{neg_of}
use Rattle.geometry.proofs.vector.Vector3DNeg.neg.Goals as goal

pub returns : goal.returns
unfolding neg_of
returns c = refl
