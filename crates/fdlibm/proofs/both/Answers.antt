use Prim.Native.Nat.{◌<◌}
use native.Mathlib.Omega.{arith}
use borrow.Author.Tests.{le-leb, lt-leb}
use Rattle.number.specs.Words.{high_word}
use Rattle.fdlibm.specs.Sine.{sin_of, cos_of}
use Rattle.fdlibm.proofs.both.Goals as goal

pub returns-then-ix-le1072243195 : goal.returns-then-ix-le1072243195
unfolding sin_of cos_of
returns-then-ix-le1072243195 c = (
  rw (c.kernels.ensures.0, ← c.high_word-ix.ensures, le-leb _ _ c.if-ix-le1072243195.true),
  rw (c.kernels.ensures.1, ← c.high_word-ix.ensures, le-leb _ _ c.if-ix-le1072243195.true),
)

pub returns-then-ix-le1094263291 : goal.returns-then-ix-le1094263291
unfolding sin_of cos_of
returns-then-ix-le1094263291 c =
    let w = c.high_word-ix.ensures in
    let ix = high_word c.args.x in
    let above : 0x3fe921fb < ix = omega (arith, w) in
    let finite : ix < 0x7ff00000 = omega (arith, w) in (
      rw (c.both_at.ensures.0, lt-leb ix 0x3fe921fb above, lt-leb 0x7ff00000 ix finite, ← c.rem_pio2.ensures),
      rw (c.both_at.ensures.1, lt-leb ix 0x3fe921fb above, lt-leb 0x7ff00000 ix finite, ← c.rem_pio2.ensures),
    )

pub both_large-requires : goal.both_large-requires
both_large-requires c = omega (arith, c.high_word-ix.ensures)

pub returns : goal.returns
returns c = c.both_large.ensures
