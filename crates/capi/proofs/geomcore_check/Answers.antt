use mathlib.Core.Path.{sym, ◌∙◌}
use Rattle.capi.proofs.Words.{index_told, checked_word_lem, checked_unread}
use Rattle.capi.proofs.geomcore_check.Goals as goal

pub checked_word-requires : goal.checked_word-requires
checked_word-requires c =
    let g = c.args in
    index_told g.count g.start g.code (rw c.claim-claim.ensures at c.check.ensures)

pub returns-in-Err : goal.returns-in-Err
returns-in-Err c = checked_unread _ _ _ _ _ (sym c.read.ensures ∙ c.in-Err.is) c.number.ensures

pub returns-in-Ok : goal.returns-in-Ok
returns-in-Ok c = checked_word_lem _ _ _ _ _ (sym c.read.ensures ∙ c.in-Ok.is) (rw c.claim-claim.ensures at c.check.ensures) c.checked_word.ensures
