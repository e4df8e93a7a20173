use mathlib.Core.Path.{sym}
use Rattle.groups.proofs.traced.ClosingTryFromUsize.try_from.Goals as goal

pub returns-in-0 : goal.returns-in-0
returns-in-0 c = sym c.in-0.is

pub returns-in-1 : goal.returns-in-1
returns-in-1 c = sym c.in-1.is

pub returns-in-2 : goal.returns-in-2
returns-in-2 c = sym c.in-2.is
