use mathlib.Core.Path.{refl}
use Rattle.remainder.specs.Large.{jx_of}
use Rattle.remainder.proofs.last_piece.Goals as goal

pub returns-then-tx-2-clause-is : goal.returns-then-tx-2-clause-is
unfolding jx_of
returns-then-tx-2-clause-is c = rw (c.if-tx.true, c.if-tx-2.true) refl

pub returns-else-tx-2-clause-is : goal.returns-else-tx-2-clause-is
unfolding jx_of
returns-else-tx-2-clause-is c = rw (c.if-tx.true, c.if-tx-2.false) refl

pub returns-else-tx-clause-is : goal.returns-else-tx-clause-is
unfolding jx_of
returns-else-tx-clause-is c = rw c.if-tx.false refl
