use mathlib.Core.Path.{refl}
use Rattle.remainder.specs.Large.{pieces_of}
use Rattle.remainder.proofs.pieces.Goals as goal

pub returns : goal.returns
unfolding pieces_of
returns c = rw (c.int-t1.ensures.is, c.int-t0.ensures.is) refl
