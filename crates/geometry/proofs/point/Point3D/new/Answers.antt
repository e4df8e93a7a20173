use mathlib.Core.Path.{refl}
use Rattle.geometry.specs.Point.{point_of}
use Rattle.geometry.proofs.point.Point3D.new.Goals as goal

pub returns : goal.returns
unfolding point_of
returns c = refl
