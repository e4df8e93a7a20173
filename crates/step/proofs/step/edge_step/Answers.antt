use mathlib.Core.Path.{◌≡◌, refl}
use mathlib.Core.Bool.{Bool}
use lib.Ieee.{Float}
use Rattle.loops.proofs.Choice.{pick_taken, pick_left}
use Rattle.number.specs.Operators.{◌<?◌}
use Rattle.step.specs.Step.{edge_step}
use Rattle.step.proofs.step.edge_step.Goals as goal

-- the test of the chord
less : {m n d e : Float} {b : Bool} → m ≡ n → d ≡ e → (m <? d) ≡ b → (n <? e) ≡ b
less p q h = rw (← p, ← q) h

pub returns-then-max-distance : goal.returns-then-max-distance
unfolding edge_step
returns-then-max-distance c = pick_taken _ (less c.max.ensures c.distance.ensures c.if-max-distance.true) refl

pub returns-else-max-distance : goal.returns-else-max-distance
unfolding edge_step
returns-else-max-distance c = pick_left _ (less c.max.ensures c.distance.ensures c.if-max-distance.false) refl
