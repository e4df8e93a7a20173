use Rattle.number.proofs.words.magnitude_bits.Goals as goal

pub returns : goal.returns
returns c = rw c.to_bits.ensures
