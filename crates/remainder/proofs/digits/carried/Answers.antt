use Rattle.remainder.specs.Kernel.{carried_of}
use Rattle.remainder.proofs.digits.carried.Goals as goal

pub returns-then-carry : goal.returns-then-carry
unfolding carried_of
returns-then-carry c = rw c.if-carry.true

pub returns : goal.returns
unfolding carried_of
returns c = rw c.if-carry.false
