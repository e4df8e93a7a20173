use Rattle.number.specs.Helpers.{same_bits}
use Rattle.number.proofs.same_bits.Goals as goal

pub returns : goal.returns
unfolding same_bits
returns c = rw (c.to_bits-2.ensures, c.to_bits.ensures)
