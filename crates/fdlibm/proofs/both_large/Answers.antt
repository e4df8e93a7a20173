use Prim.Native.Nat.{◌≤◌, ◌<◌}
use native.Mathlib.Omega.{arith}
use borrow.Author.Tests.{le-leb, lt-leb}
use Rattle.number.specs.Words.{high_word}
use Rattle.fdlibm.specs.Sine.{sin_of, cos_of}
use Rattle.fdlibm.proofs.both_large.Goals as goal

pub returns-then-high_word-ge2146435072 : goal.returns-then-high_word-ge2146435072
unfolding sin_of cos_of
returns-then-high_word-ge2146435072 c =
    let ix = high_word c.args.x in
    let above : 0x3fe921fb < ix = omega (arith, c.requires) in
    let top : 0x7ff00000 ≤ ix = omega (arith, c.high_word.ensures) in
    (rw (lt-leb ix 0x3fe921fb above, le-leb 0x7ff00000 ix top), rw (lt-leb ix 0x3fe921fb above, le-leb 0x7ff00000 ix top))

pub returns : goal.returns
unfolding sin_of cos_of
returns c =
    let ix = high_word c.args.x in
    let above : 0x3fe921fb < ix = omega (arith, c.requires) in
    let finite : ix < 0x7ff00000 = omega (arith, c.high_word.ensures) in (
      rw (c.both_at.ensures.0, lt-leb ix 0x3fe921fb above, lt-leb 0x7ff00000 ix finite, ← c.rem_pio2.ensures),
      rw (c.both_at.ensures.1, lt-leb ix 0x3fe921fb above, lt-leb 0x7ff00000 ix finite, ← c.rem_pio2.ensures),
    )
