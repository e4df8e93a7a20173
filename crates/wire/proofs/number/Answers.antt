use Rattle.wire.specs.Wire.{number_at}
use Rattle.wire.proofs.number.Goals as goal

pub returns : goal.returns
unfolding number_at
returns c = rw (c.from_bits.ensures, c.uint.ensures.value)
