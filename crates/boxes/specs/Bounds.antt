-- Boxes: whether two are apart, and the box around points of a lent trace. Definitions only.
use Rattle.std.specs.Prelude.{Bool, ◌||◌, Float, List, ℕ}
use Rattle.number.specs.Operators.{◌<?◌}
use Rattle.loops.specs.Loop.{ranged}
use Rattle.number.specs.Helpers.{min_of, max_of}
use Rattle.groups.specs.Row.{point_at}
use Rattle.geometry.specs.Point.{point_of}
use Rattle.geometry.specs.declared.point.Point3D.{Point3D}
use Rattle.boxes.specs.declared.boxtree.Aabb.{Aabb}

-- two intervals on one axis, [low, high] and [from, to]: one's low end is above the other's high end
abbrev pub apart_on : Float → Float → Float → Float → Bool
apart_on low high from to = to <? low || high <? from

-- boxes_apart with a gap of 0: on some axis
unfoldable pub boxes_apart : Aabb → Aabb → Bool
boxes_apart a b =
    apart_on a.low.x a.high.x b.low.x b.high.x
    || (apart_on a.low.y a.high.y b.low.y b.high.y
    || apart_on a.low.z a.high.z b.low.z b.high.z)

-- the box that is a point
unfoldable pub point_box : Point3D → Aabb
point_box p = record { low = p; high = p }

-- a box widened to hold a point
unfoldable pub cover_of : Aabb → Point3D → Aabb
cover_of b p = record {
  low = point_of (min_of b.low.x p.x) (min_of b.low.y p.y) (min_of b.low.z p.z);
  high = point_of (max_of b.high.x p.x) (max_of b.high.y p.y) (max_of b.high.z p.z);
}

-- the box widened by point i
abbrev pub cover_at : List Float → ℕ → Aabb → Aabb
cover_at l i b = cover_of b (point_at l i)

-- bounding_box of the points, from the first point's box on
unfoldable pub bounds_of : List Float → ℕ → Aabb
bounds_of l count = ranged (cover_at l) 1 count (point_box (point_at l 0))
