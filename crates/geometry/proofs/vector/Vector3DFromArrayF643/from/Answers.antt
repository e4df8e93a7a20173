use Rattle.geometry.proofs.vector.Vector3DFromArrayF643.from.Goals as goal

pub returns : goal.returns
returns c = c.new.ensures
