use native.Mathlib.Omega.{arith}
use Rattle.groups.specs.Groups.{width}
use Rattle.groups.proofs.Groups.{holds_quotient}
use Rattle.groups.proofs.holds.Goals as goal

pub returns : goal.returns
returns c = holds_quotient width _ _ (omega arith)
