use Rattle.geometry.proofs.point.Point3DFromArrayF643.from.Goals as goal

pub returns : goal.returns
returns c = c.new.ensures
