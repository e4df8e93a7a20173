use mathlib.Core.Path.{sym, ◌∙◌}
use Rattle.capi.proofs.Words.{bounded, traced_word_lem, traced_unread}
use Rattle.capi.proofs.geomcore_trace.Goals as goal

pub traced_word-requires : goal.traced_word-requires
traced_word-requires c = bounded _ c.trace.ensures

pub returns-in-Err : goal.returns-in-Err
returns-in-Err c = traced_unread _ (sym c.read.ensures ∙ c.in-Err.is) _ c.number.ensures

pub returns-in-Ok : goal.returns-in-Ok
returns-in-Ok c = traced_word_lem _ _ (sym c.read.ensures ∙ c.in-Ok.is) _ _ c.trace.ensures c.traced_word.ensures
