use mathlib.Core.Path.{refl}
use lib.Ieee.{of_bits, neg}
use Rattle.example_nine.proofs.square_plane.Goals as goal

pub returns : goal.returns
unfolding of_bits neg
returns c = refl
