use Rattle.geometry.specs.Frame.{point_at_of}
use Rattle.geometry.proofs.frame.Frame3D.point_at.Goals as goal

pub returns : goal.returns
unfolding point_at_of
returns c = rw (c.add-3.ensures, c.mul-3.ensures, c.add-2.ensures, c.mul-2.ensures, c.add.ensures, c.mul.ensures)
