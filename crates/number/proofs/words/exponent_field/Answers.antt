use Rattle.number.proofs.words.exponent_field.Goals as goal

pub returns : goal.returns
returns c = rw c.to_bits.ensures
