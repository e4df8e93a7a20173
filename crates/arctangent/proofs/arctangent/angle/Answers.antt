use borrow.Author.Tests.{ne_eqb}
use Rattle.arctangent.specs.Arctangent.{angle_of}
use Rattle.arctangent.proofs.arctangent.angle.Goals as goal

pub returns-then-magnitude_bits-eq0 : goal.returns-then-magnitude_bits-eq0
unfolding angle_of
returns-then-magnitude_bits-eq0 c = rw (c.on_axis.ensures, c.to_bits.ensures, c.sign_bit-y_sign.ensures, ← c.magnitude_bits.ensures, c.if-magnitude_bits-eq0.true)

pub returns-then-magnitude_bits-eq0-2 : goal.returns-then-magnitude_bits-eq0-2
unfolding angle_of
returns-then-magnitude_bits-eq0-2 c =
    rw (c.upright.ensures, c.sign_bit-y_sign.ensures, ← c.magnitude_bits.ensures, ne_eqb _ _ c.if-magnitude_bits-eq0.false)
    (rw (← c.magnitude_bits-2.ensures, c.if-magnitude_bits-eq0-2.true))

pub returns-then-ix-eq2146435072 : goal.returns-then-ix-eq2146435072
unfolding angle_of
returns-then-ix-eq2146435072 c =
    rw (c.far_along.ensures, c.to_bits.ensures, c.sign_bit-y_sign.ensures, ← c.magnitude_bits.ensures, ne_eqb _ _ c.if-magnitude_bits-eq0.false)
    (rw (← c.magnitude_bits-2.ensures, ne_eqb _ _ c.if-magnitude_bits-eq0-2.false, c.high_word-iy.ensures, ← c.high_word-ix.ensures, c.if-ix-eq2146435072.true))

pub returns-then-iy-eq2146435072 : goal.returns-then-iy-eq2146435072
unfolding angle_of
returns-then-iy-eq2146435072 c =
    rw (c.upright-then-iy-eq2146435072.ensures, c.sign_bit-y_sign.ensures, ← c.magnitude_bits.ensures, ne_eqb _ _ c.if-magnitude_bits-eq0.false)
    (rw (← c.magnitude_bits-2.ensures, ne_eqb _ _ c.if-magnitude_bits-eq0-2.false, ← c.high_word-iy.ensures, ← c.high_word-ix.ensures)
    (rw (ne_eqb _ _ c.if-ix-eq2146435072.false, c.if-iy-eq2146435072.true)))

pub returns : goal.returns
unfolding angle_of
returns c =
    rw (c.around.ensures, c.quotient-z.ensures, c.sign_bit.ensures, c.to_bits.ensures, c.sign_bit-y_sign.ensures)
    (rw (← c.magnitude_bits.ensures, ne_eqb _ _ c.if-magnitude_bits-eq0.false, ← c.magnitude_bits-2.ensures, ne_eqb _ _ c.if-magnitude_bits-eq0-2.false)
    (rw (← c.high_word-iy.ensures, ← c.high_word-ix.ensures, ne_eqb _ _ c.if-ix-eq2146435072.false, ne_eqb _ _ c.if-iy-eq2146435072.false)))
