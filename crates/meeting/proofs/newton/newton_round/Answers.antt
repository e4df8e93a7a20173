use Rattle.std.proofs.Common.{Break}
use mathlib.Core.Path.{◌≡◌, sym, ap, ◌∙◌}
use mathlib.Core.Bool.{Bool}
use lib.Ieee.{Float}
use Rattle.number.specs.Operators.{◌⊗◌}
use Rattle.number.specs.Helpers.{tenth}
use Rattle.patch.specs.declared.patch.Patch.{Patch}
use Rattle.meeting.specs.declared.correction.Residual.{Residual}
use Rattle.meeting.specs.Newton.{near_of, newton_round}
use Rattle.meeting.proofs.newton.newton_round.Goals as goal

-- the test at once, against a tenth of confusion
at_once : (a b : Patch) (s : Residual) (confusion : Float) {r t : Bool} → r ≡ near_of a b s (tenth ⊗ confusion) → r ≡ t → near_of a b s (tenth ⊗ confusion) ≡ t
at_once a b s confusion e h = sym e ∙ h

pub returns-then-near : goal.returns-then-near
unfolding newton_round
returns-then-near c = rw (at_once _ _ _ _ c.near.ensures c.if-near.true)

pub returns-in_default : goal.returns-in_default
unfolding newton_round
returns-in_default c =
    rw (at_once _ _ _ _ c.near.ensures c.if-near.false, ← c.newton_correction-correction.ensures, c.in-Ok.is, ← c.trials.ensures)
    (rw c.in_default.is (ap Break c.last_test.ensures))

pub returns-in-Err : goal.returns-in-Err
unfolding newton_round
returns-in-Err c = rw (at_once _ _ _ _ c.near.ensures c.if-near.false, ← c.newton_correction-correction.ensures, c.in-Err.is)

pub returns-in-Some : goal.returns-in-Some
unfolding newton_round
returns-in-Some c = rw (at_once _ _ _ _ c.near.ensures c.if-near.false, ← c.newton_correction-correction.ensures, c.in-Ok.is, ← c.trials.ensures, c.in-Some.is)
