-- The numbers of one point. Definitions only.
use Rattle.std.specs.Prelude.{List, [], ◌∷◌, ℕ, ◌+◌, ◌*◌, ◌/◌, ltb, length, get_or, Float}
use Rattle.std.specs.Float.{nan}
use Rattle.loops.specs.Loop.{pick}
use Rattle.number.specs.Helpers.{positive_zero}
use Rattle.geometry.specs.declared.point.Point3D.{Point3D}
use Rattle.groups.specs.declared.row.Row.{Row}
use Rattle.groups.specs.Groups.{width}

-- "seven numbers a point first: x, y, z, then u, v on A and u, v on B"
abbrev pub numbers_of : Row → List Float
numbers_of r = r.x ∷ r.y ∷ r.z ∷ r.u1 ∷ r.v1 ∷ r.u2 ∷ r.v2 ∷ []

-- the point itself: "x, y, z" come first
abbrev pub point_in : Row → Point3D
point_in r = record { x = r.x; y = r.y; z = r.z }

-- the numbers of the point that stands from index `at` on
abbrev pub row_from : List Float → ℕ → Row
row_from l at = record {
  x = get_or l at nan;
  y = get_or l (at + 1) nan;
  z = get_or l (at + 2) nan;
  u1 = get_or l (at + 3) nan;
  v1 = get_or l (at + 4) nan;
  u2 = get_or l (at + 5) nan;
  v2 = get_or l (at + 6) nan;
}

-- the numbers of point i, a NaN for each that the list has not
abbrev pub row_at : List Float → ℕ → Row
row_at l i = row_from l (width * i)

-- its coordinates
abbrev pub point_at : List Float → ℕ → Point3D
point_at l i = point_in (row_at l i)

-- seven zeros
abbrev pub no_row : Row
no_row = record { x = positive_zero; y = positive_zero; z = positive_zero; u1 = positive_zero; v1 = positive_zero; u2 = positive_zero; v2 = positive_zero }

-- the numbers of point i of any list: zeros where it has no point i
unfoldable pub row_of : List Float → ℕ → Row
row_of l i = pick (ltb i (length l / width)) (row_at l i) no_row
