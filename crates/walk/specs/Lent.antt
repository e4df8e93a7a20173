-- The lent buffer: points put down and reversed. Definitions only.
use Rattle.std.specs.Prelude.{List, [], ◌∷◌, ◌++◌, ℕ, zero, suc, ◌+◌, ◌*◌, Float, take, drop}
use Rattle.groups.specs.Groups.{width}
use Rattle.groups.specs.declared.row.Row.{Row}
use Rattle.groups.specs.Row.{numbers_of}
use Rattle.geometry.specs.declared.point.Point3D.{Point3D}
use Rattle.patch.specs.Located.{point_a}
use Rattle.patch.specs.declared.patch.Patch.{Patch}
use Rattle.patch.specs.declared.patch.Parameters.{Parameters}

-- the first numbers of a point, and those behind them
abbrev pub coordinate_numbers : Row → List Float
coordinate_numbers r = r.x ∷ r.y ∷ r.z ∷ []

abbrev pub parameter_numbers : Row → List Float
parameter_numbers r = r.u1 ∷ r.v1 ∷ r.u2 ∷ r.v2 ∷ []

-- a list with the numbers of a point from index `at` on
abbrev pub placed : List Float → ℕ → Row → List Float
placed l at r = take at l ++ numbers_of r ++ drop (at + width) l

-- the first k points of a list, last first
unfoldable pub reversed_of : ℕ → List Float → List Float
reversed_of zero l = []
reversed_of (suc k) l = reversed_of k (drop width l) ++ take width l

-- the start and f points behind it, then b points: those reversed come first ("the backward half turned round in it")
unfoldable pub joined_of : ℕ → ℕ → List Float → List Float
joined_of f b l = reversed_of b (take (width * b) (drop (width * (1 + f)) l)) ++ (take (width * (1 + f)) l ++ drop (width * (1 + f + b)) l)

-- "x, y, z, then u, v on A and u, v on B"
abbrev pub row_for : Point3D → Parameters → Row
row_for q x = record { x = q.x; y = q.y; z = q.z; u1 = x.u1; v1 = x.v1; u2 = x.u2; v2 = x.v2 }

-- the numbers of the point with parameters x: A's own point, then the parameters
abbrev pub own_row : Patch → Parameters → Row
own_row a x = row_for (point_a a x) x

-- the numbers of points one behind the other, `row` giving those of one
unfoldable pub rows_of : (Parameters → Row) → List Parameters → List Float
rows_of row [] = []
rows_of row (x ∷ xs) = numbers_of (row x) ++ rows_of row xs
