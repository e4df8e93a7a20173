use Rattle.number.proofs.words.high_word.Goals as goal

pub returns : goal.returns
returns c = rw c.to_bits.ensures
