use mathlib.Core.Path.{◌≡◌, sym, ◌∙◌}
use mathlib.Core.Bool.{true, false}
use Rattle.meeting.specs.Newton.{near_of, last_test}
use Rattle.meeting.proofs.newton.last_test.Goals as goal

pub returns-then-near : goal.returns-then-near
unfolding last_test
returns-then-near c =
    let g = c.args in
    let near : near_of g.a g.b g.s g.confusion ≡ true = sym c.near.ensures ∙ c.if-near.true in
    rw near

pub returns-else-near : goal.returns-else-near
unfolding last_test
returns-else-near c =
    let g = c.args in
    let far : near_of g.a g.b g.s g.confusion ≡ false = sym c.near.ensures ∙ c.if-near.false in
    rw far
