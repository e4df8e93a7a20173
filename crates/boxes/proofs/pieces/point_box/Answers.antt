use mathlib.Core.Path.{refl}
use Rattle.boxes.specs.Bounds.{point_box}
use Rattle.boxes.proofs.pieces.point_box.Goals as goal

pub returns : goal.returns
unfolding point_box
returns c = refl
