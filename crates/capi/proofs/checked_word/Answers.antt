use Rattle.capi.proofs.Words.{number_fits, refusal_fits}
use Rattle.capi.specs.Check.{checked_word}
use Rattle.capi.proofs.checked_word.Goals as goal

pub refused_word-requires : goal.refused_word-requires
refused_word-requires c = (rw c.numbers-n.ensures (number_fits c.in-Err.refusal), rw c.numbers-n.ensures (refusal_fits c.in-Err.is c.requires))

pub returns-in-Ok : goal.returns-in-Ok
unfolding checked_word
returns-in-Ok c = rw c.in-Ok.is

pub returns-in-Err : goal.returns-in-Err
unfolding checked_word
returns-in-Err c = rw (c.in-Err.is, c.refused_word.ensures, c.numbers-n.ensures)
