use Rattle.geomcore.proofs.call.point.Goals as goal

pub returns : goal.returns
returns c = record { answer = c.point.ensures }
