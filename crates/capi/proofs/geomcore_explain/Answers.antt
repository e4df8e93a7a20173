use mathlib.Core.Path.{sym, ◌∙◌}
use Rattle.capi.proofs.Explained.{value_fits, explained_word_lem, unexplained}
use Rattle.capi.proofs.geomcore_explain.Goals as goal

pub returns-in_default : goal.returns-in_default
returns-in_default c =
    let g = c.args in
    unexplained g.confusion g.angular g.buffer.now g.count g.corners.now (sym c.box_given.ensures ∙ c.in_default.is) c.number.ensures

pub explained_word-requires : goal.explained_word-requires
explained_word-requires c = value_fits c.explain.ensures

pub returns : goal.returns
returns c =
    let g = c.args in
    explained_word_lem g.confusion g.angular g.buffer.now g.count g.corners.now (sym c.box_given.ensures ∙ c.in-Some.is)
    (rw (← c.tolerance-tol.ensures) c.explain.ensures) c.explained_word.ensures
