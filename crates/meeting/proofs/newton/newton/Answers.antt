-- The loop's invariant: the rounds left give what all of them give.
use Rattle.std.proofs.Common.{ControlFlow}
use mathlib.Core.Path.{◌≡◌, refl, sym, ap, ◌∙◌}
use Prim.Native.Nat.{ℕ}
use lib.Ieee.{Float}
use Rattle.loops.proofs.Loop.{searched_again, searched_leave, searched_done}
use Rattle.patch.specs.declared.patch.Patch.{Patch}
use Rattle.meeting.specs.declared.correction.Target.{Target}
use Rattle.meeting.specs.declared.correction.Residual.{Residual}
use Rattle.meeting.specs.declared.newton.Met.{Met}
use Rattle.meeting.specs.Newton.{newton_round, most_rounds, going_on, round_body, rounds_from, newton_of}
use Rattle.meeting.proofs.newton.newton.Goals as goal
use Rattle.meeting.proofs.newton.newton.Goals.{After-residual_at-s}

-- what a round says to the loop
said : (a b : Patch) (target : Target) (confusion : Float) (i : ℕ) (s : Residual) {r q : ControlFlow Met Residual} → r ≡ newton_round a b target confusion i s → r ≡ q
    → round_body a b target confusion i s ≡ going_on q
said a b target confusion i s e f = ap going_on (sym e ∙ f)

-- the first state is that of the definition
start_is : (c : After-residual_at-s)
    → rounds_from c.args.a c.args.b c.args.target c.args.confusion 0 c.residual_at-s.result
    ≡ newton_of c.args.a c.args.b c.args.target c.args.x c.args.confusion
unfolding newton_of
start_is c = rw c.residual_at-s.ensures

pub loop-i-init : goal.loop-i-init
loop-i-init c = refl

pub returns-in-Break : goal.returns-in-Break
returns-in-Break c = searched_leave _ _ _ most_rounds c.loop-i-test.true (said _ _ _ _ c.loop-i.i _ c.newton_round.ensures c.in-Break.is) c.loop-i.invariant ∙ start_is (goal.at.returns-in-Break c).After-residual_at-s

pub loop-i-preserved : goal.loop-i-preserved
loop-i-preserved c = searched_again _ _ _ most_rounds c.loop-i-test.true (said _ _ _ _ c.loop-i.i _ c.newton_round.ensures c.in-Continue.is) c.loop-i.invariant

pub returns : goal.returns
returns c = c.last_test.ensures ∙ searched_done _ _ _ most_rounds c.loop-i-test.false c.loop-i.invariant ∙ start_is (goal.at.returns c).After-residual_at-s
