use mathlib.Core.Path.{◌≡◌}
use mathlib.Core.Bool.{true, false}
use lib.Ieee.{Float}
use Rattle.std.specs.Prelude.{Some, None}
use Rattle.number.specs.Operators.{bits, ◌<?◌, ◌==?◌}
use Rattle.boxes.specs.declared.marching.Span.{Span}
use Rattle.boxes.specs.Segment.{clip_of}
use Rattle.boxes.proofs.marching.clip.Goals as goal
use Rattle.boxes.proofs.marching.clip.Goals.{then-from-low-via-then-from-low, then-from-low-via-else-from-low+then-high-from}

-- where the segment stands still on this axis
module _ (from d low high : Float) (s : Span) (still : (d ==? bits 0) ≡ true) where
  under : (from <? low) ≡ true → None ≡ clip_of from d low high s
  unfolding clip_of
  under l = rw (still, l)

  over : (from <? low) ≡ false → (high <? from) ≡ true → None ≡ clip_of from d low high s
  unfolding clip_of
  over l h = rw (still, l, h)

  between : (from <? low) ≡ false → (high <? from) ≡ false → Some s ≡ clip_of from d low high s
  unfolding clip_of
  between l h = rw (still, l, h)

pub returns-then-from-low : goal.returns-then-from-low
returns-then-from-low c =
    let g = c.args in
    elim c.then-from-low.branch [
      | then-from-low-via-then-from-low w ↦ under g.from g.d g.low g.high g.span c.if-d.true w.if-from-low.true
      | then-from-low-via-else-from-low+then-high-from w ↦ over g.from g.d g.low g.high g.span c.if-d.true w.if-from-low.false w.if-high-from.true
    ]

pub returns-then-d : goal.returns-then-d
returns-then-d c = between _ _ _ _ _ c.if-d.true c.if-from-low.false c.if-high-from.false

pub returns-then-hi-lo : goal.returns-then-hi-lo
unfolding clip_of
returns-then-hi-lo c = rw (c.if-d.false, ← c.min.ensures, ← c.max-lo.ensures, ← c.max.ensures, ← c.min-hi.ensures, c.if-hi-lo.true)

pub returns : goal.returns
unfolding clip_of
returns c = rw (c.if-d.false, ← c.min.ensures, ← c.max-lo.ensures, ← c.max.ensures, ← c.min-hi.ensures, c.if-hi-lo.false)
