-- Groups of one width in a flat list. Definitions only.
use Rattle.std.specs.Prelude.{Bool, ◌&&◌, List, ℕ, ◌*◌, leb, length, drop}

-- "seven numbers a point": x, y, z, then u, v on A and u, v on B
abbrev pub width : ℕ
width = 7

-- the least and the most points of a trace
abbrev pub least_points : ℕ
least_points = 4

abbrev pub most_points : ℕ
most_points = 4001

-- not "count outside 4 to 4001"
unfoldable pub count_fits : ℕ → Bool
count_fits count = leb least_points count && leb count most_points

-- the list from group i on
abbrev pub from_group : {A : Type 0} → ℕ → ℕ → List A → List A
from_group w i l = drop (w * i) l

-- not "fewer than 7(2n+1) numbers lent", nor "fewer than 7 for each point claimed"
unfoldable pub holds_of : {A : Type 0} → ℕ → List A → ℕ → Bool
holds_of w l count = leb (w * count) (length l)
