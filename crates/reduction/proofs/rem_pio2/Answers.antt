use mathlib.Core.Path.{refl, ◌∙◌}
use borrow.Author.Tests.{lt-ltb, le-ltb, le-leb, lt-leb, eq-eqb, ne_eqb}
use Rattle.loops.proofs.Choice.{pick_taken, pick_left}
use Rattle.reduction.specs.Reduction.{rem_pio2}
use Rattle.reduction.proofs.Branches.{near_above, near_below}
use Rattle.reduction.proofs.rem_pio2.Goals as goal

pub returns-then-ix-le1072243195 : goal.returns-then-ix-le1072243195
unfolding rem_pio2
returns-then-ix-le1072243195 c = rw (← c.high_word-ix.ensures) (pick_taken _ (le-leb _ _ c.if-ix-le1072243195.true) refl)

pub returns-then-sign-eq0 : goal.returns-then-sign-eq0
unfolding rem_pio2
returns-then-sign-eq0 c =
    rw (← c.sign_bit-sign.ensures, ← c.high_word-ix.ensures)
    (pick_left _ (lt-leb _ _ c.if-ix-le1072243195.false) (pick_taken _ (lt-ltb _ _ c.if-ix-lt1073928572.true)
    (pick_taken _ (eq-eqb _ _ c.if-sign-eq0.true) (c.near.ensures ∙ near_above c.args.x _))))

pub returns-else-sign-eq0 : goal.returns-else-sign-eq0
unfolding rem_pio2
returns-else-sign-eq0 c =
    rw (← c.sign_bit-sign.ensures, ← c.high_word-ix.ensures)
    (pick_left _ (lt-leb _ _ c.if-ix-le1072243195.false) (pick_taken _ (lt-ltb _ _ c.if-ix-lt1073928572.true)
    (pick_left _ (ne_eqb _ _ c.if-sign-eq0.false) (c.near-else-sign-eq0.ensures ∙ near_below c.args.x _))))

pub returns-then-ix-le1094263291 : goal.returns-then-ix-le1094263291
unfolding rem_pio2
returns-then-ix-le1094263291 c =
    rw (c.by_sign.ensures, c.medium.ensures, c.abs.ensures, ← c.sign_bit-sign.ensures, ← c.high_word-ix.ensures)
    (pick_left _ (lt-leb _ _ c.if-ix-le1072243195.false) (pick_left _ (le-ltb _ _ c.if-ix-lt1073928572.false)
    (pick_taken _ (le-leb _ _ c.if-ix-le1094263291.true) refl)))

pub returns-then-ix-ge2146435072 : goal.returns-then-ix-ge2146435072
unfolding rem_pio2
returns-then-ix-ge2146435072 c =
    rw (← c.high_word-ix.ensures)
    (pick_left _ (lt-leb _ _ c.if-ix-le1072243195.false) (pick_left _ (le-ltb _ _ c.if-ix-lt1073928572.false)
    (pick_left _ (lt-leb _ _ c.if-ix-le1094263291.false) (pick_taken _ (le-leb _ _ c.if-ix-ge2146435072.true) refl))))

pub returns-else-ix-ge2146435072 : goal.returns-else-ix-ge2146435072
unfolding rem_pio2
returns-else-ix-ge2146435072 c =
    rw (c.by_sign-else-ix-ge2146435072.ensures, c.large.ensures, ← c.sign_bit-sign.ensures, ← c.high_word-ix.ensures)
    (pick_left _ (lt-leb _ _ c.if-ix-le1072243195.false) (pick_left _ (le-ltb _ _ c.if-ix-lt1073928572.false)
    (pick_left _ (lt-leb _ _ c.if-ix-le1094263291.false) (pick_left _ (lt-leb _ _ c.if-ix-ge2146435072.false) refl))))
