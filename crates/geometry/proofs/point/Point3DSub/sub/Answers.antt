use mathlib.Core.Path.{refl}
use Rattle.geometry.specs.Point.{difference_of}
use Rattle.geometry.proofs.point.Point3DSub.sub.Goals as goal

pub returns : goal.returns
unfolding difference_of
returns c = refl
