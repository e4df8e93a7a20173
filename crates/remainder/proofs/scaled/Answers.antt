use mathlib.Core.Path.{refl}
use lib.Bits.{and_mask}
use Rattle.remainder.specs.Large.{scaled_of}
use Rattle.remainder.proofs.scaled.Goals as goal

pub returns : goal.returns
unfolding scaled_of
returns c = rw (c.from_bits.ensures, c.magnitude_bits.ensures, and_mask _ 52) refl
