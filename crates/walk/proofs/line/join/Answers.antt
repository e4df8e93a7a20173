use Rattle.walk.proofs.Joining.{joined}
use Rattle.walk.proofs.line.join.Goals as goal

pub returns : goal.returns
returns c = joined c.args.forward c.args.backward c.args.points.now c.requires c.reverse.ensures c.reverse-2.ensures
