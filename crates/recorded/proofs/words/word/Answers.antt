use Rattle.std.proofs.Common.{◌≡◌, ℕ, ◌+◌, ◌<◌, ◌≤◌, List, length, arith, le-leb}
use borrow.Author.Tests.{lt-leb}
use Rattle.recorded.specs.Words.{word_at}
use Rattle.wire.specs.Wire.{uint_at}
use Rattle.recorded.proofs.words.word.Goals as goal

short : (s : List ℕ) (at : ℕ) → length s < at + 8 → 0 ≡ word_at s at
short s at h = rw (lt-leb (at + 8) (length s) h)

long : (s : List ℕ) (at w : ℕ) → at + 8 ≤ length s → w ≡ uint_at 8 s at → w ≡ word_at s at
long s at w h e = rw (le-leb (at + 8) (length s) h) e

pub returns-then-bytes-lt8 : goal.returns-then-bytes-lt8
returns-then-bytes-lt8 c = short c.args.bytes.now c.args.at (omega arith)

pub returns-then-bytes-at : goal.returns-then-bytes-at
returns-then-bytes-at c = short c.args.bytes.now c.args.at (omega arith)

pub returns : goal.returns
returns c =
    let s = c.args in
    long s.bytes.now s.at c.uint.result (omega arith) c.uint.ensures.value
