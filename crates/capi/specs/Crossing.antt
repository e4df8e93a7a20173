-- The crossing's word. Definitions only.
use Rattle.std.specs.Prelude.{List, ℕ, ◌+◌, ◌*◌, leb, length, get_or, Float, Option, Some, None}
use Rattle.std.specs.Float.{nan}
use Rattle.loops.specs.Loop.{pick}
use Rattle.number.specs.Operators.{bits}
use Rattle.refusal.specs.Refusal.{number_of}
use Rattle.refusal.specs.declared.Refusal.TheVariants.{Lent}
use Rattle.geometry.specs.Point.{point_of}
use Rattle.geometry.specs.declared.tolerance.Tolerance.{Tolerance}
use Rattle.geometry.specs.declared.point.Point3D.{Point3D}
use Rattle.boxes.specs.declared.boxtree.Aabb.{Aabb}
use Rattle.boxes.specs.Crossing.{Crossed}
use Rattle.boxes.specs.Crossing.{refusal_of, crossed_of, crossing_of}

-- the refusal's number + 2^8 if the trace is crossed (include/geomcore.h)
abbrev pub crossed_word : Crossed → ℕ
crossed_word answer = refusal_of answer + 256 * pick (crossed_of answer) 1 0

-- three numbers of the corners
abbrev pub corner_at : List Float → ℕ → Point3D
corner_at l at = point_of (get_or l at nan) (get_or l (at + 1) nan) (get_or l (at + 2) nan)

-- the box of the corners given, low x, y, z, then high; none of fewer than six numbers
unfoldable pub box_given : List Float → Option Aabb
box_given corners = pick (leb 6 (length corners)) (Some (record { low = corner_at corners 0; high = corner_at corners 3 })) None

-- the word of a call on that box, or 8 where there is none
abbrev pub on_box : Option Aabb → (Aabb → ℕ) → ℕ
on_box None word = number_of Lent
on_box (Some b) word = word b

-- "The parametric tolerance isn't read."
abbrev pub tolerance_in : Float → Float → Tolerance
tolerance_in confusion angular = record { confusion = confusion; angular = angular; parametric = bits 0 }

-- the crossing's word for what C hands over
unfoldable pub crossing_answer : Float → Float → List Float → ℕ → List Float → ℕ
crossing_answer confusion angular buffer count corners =
    on_box (box_given corners) (λ (b : Aabb). crossed_word (crossing_of (tolerance_in confusion angular) buffer count b))
