use Rattle.number.proofs.words.sign_bit.Goals as goal

pub returns : goal.returns
returns c = rw c.to_bits.ensures
