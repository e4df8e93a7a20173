-- `segment_meets_box` of marching.rs. Definitions only.
use Rattle.std.specs.Prelude.{Bool, Float, Option, Some, None, option_and_then, is_some}
use Rattle.loops.specs.Loop.{pick}
use Rattle.number.specs.Operators.{bits, ◌⊖◌, ◌⊘◌, ◌<?◌, ◌==?◌}
use Rattle.number.specs.Helpers.{one, min_of, max_of}
use Rattle.geometry.specs.declared.point.Point3D.{Point3D}
use Rattle.boxes.specs.declared.boxtree.Aabb.{Aabb}
use Rattle.boxes.specs.declared.marching.Span.{Span}

-- lo = 0.0 and hi = 1.0: the whole segment
abbrev pub whole : Span
whole = record { lo = bits 0; hi = one }

-- `if lo > hi { return false; }`
abbrev pub span_from : Float → Float → Option Span
span_from lo hi = pick (hi <? lo) None (Some (record { lo = lo; hi = hi }))

-- a direction that isn't 0: t0 and t1 where the segment passes the two sides, lo.max(t0.min(t1)) and hi.min(t0.max(t1))
abbrev pub narrowed : Float → Float → Span → Option Span
narrowed t0 t1 s = span_from (max_of s.lo (min_of t0 t1)) (min_of s.hi (max_of t0 t1))

-- one iteration of the Rust's loop over the axes
unfoldable pub clip_of : Float → Float → Float → Float → Span → Option Span
clip_of from d low high s =
    pick (d ==? bits 0)
    (pick (from <? low) None (pick (high <? from) None (Some s)))
    (narrowed ((low ⊖ from) ⊘ d) ((high ⊖ from) ⊘ d) s)

-- the Rust's loop over the axes, x then y then z, unless one is missed
unfoldable pub segment_meets_box : Point3D → Point3D → Aabb → Bool
segment_meets_box p q b =
    is_some (option_and_then (clip_of p.z (q.z ⊖ p.z) b.low.z b.high.z)
    (option_and_then (clip_of p.y (q.y ⊖ p.y) b.low.y b.high.y)
    (clip_of p.x (q.x ⊖ p.x) b.low.x b.high.x whole)))
