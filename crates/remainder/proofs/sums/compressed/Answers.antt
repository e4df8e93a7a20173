use mathlib.Core.Path.{refl}
use Rattle.remainder.specs.Kernel.{compressed_of}
use Rattle.remainder.proofs.sums.compressed.Goals as goal

pub returns : goal.returns
unfolding compressed_of
returns c = rw (c.by_half-2.ensures, c.by_half.ensures, c.up-y1.ensures, c.down-y0.ensures) refl
