use borrow.Author.Tests.{lt-ltb, le-ltb, le-leb, lt-leb, ne_eqb}
use Rattle.arctangent.specs.Arctangent.{atan_of}
use Rattle.arctangent.proofs.atan.Goals as goal

pub returns-then-ix-ge1141899264 : goal.returns-then-ix-ge1141899264
unfolding atan_of
returns-then-ix-ge1141899264 c = rw (c.atan_far.ensures, c.sign_bit-sign.ensures, ← c.high_word-ix.ensures, le-leb _ _ c.if-ix-ge1141899264.true)

pub returns-then-ix-lt1042284544 : goal.returns-then-ix-lt1042284544
unfolding atan_of
returns-then-ix-lt1042284544 c = rw (← c.high_word-ix.ensures, lt-leb _ _ c.if-ix-ge1141899264.false, lt-ltb _ _ c.if-ix-lt1071382528.true, lt-ltb _ _ c.if-ix-lt1042284544.true)

pub returns-else-ix-lt1042284544 : goal.returns-else-ix-lt1042284544
unfolding atan_of
returns-else-ix-lt1042284544 c = rw (c.atan_series.ensures, ← c.high_word-ix.ensures, lt-leb _ _ c.if-ix-ge1141899264.false, lt-ltb _ _ c.if-ix-lt1071382528.true, le-ltb _ _ c.if-ix-lt1042284544.false)

pub returns-then-sign-eq0 : goal.returns-then-sign-eq0
unfolding atan_of
returns-then-sign-eq0 c =
    rw (c.atan_folded-z.ensures, c.abs.ensures, ← c.sign_bit-sign.ensures, ← c.high_word-ix.ensures)
    (rw (lt-leb _ _ c.if-ix-ge1141899264.false, le-ltb _ _ c.if-ix-lt1071382528.false, c.if-sign-eq0.true))

pub returns-else-sign-eq0 : goal.returns-else-sign-eq0
unfolding atan_of
returns-else-sign-eq0 c =
    rw (c.atan_folded-z.ensures, c.abs.ensures, ← c.sign_bit-sign.ensures, ← c.high_word-ix.ensures)
    (rw (lt-leb _ _ c.if-ix-ge1141899264.false, le-ltb _ _ c.if-ix-lt1071382528.false, ne_eqb _ _ c.if-sign-eq0.false))
