use Rattle.arctangent.specs.Arctangent.{from_known}
use Rattle.arctangent.proofs.arctangent.from_known.Goals as goal

pub returns : goal.returns
unfolding from_known
returns c = rw c.atan_series.ensures
