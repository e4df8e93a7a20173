-- The public crossing. Definitions only.
use Rattle.std.specs.Prelude.{Bool, false, not, ◌&&◌, List, [], ◌∷◌, ℕ, Float, Result, Ok, Err}
use Rattle.loops.specs.Any.{any_in}
use Rattle.number.specs.Operators.{◌<?◌}
use Rattle.groups.specs.Groups.{width, count_fits, holds_of}
use Rattle.groups.specs.Row.{point_at}
use Rattle.geometry.specs.Tolerance.{tolerance_fit}
use Rattle.geometry.specs.declared.tolerance.Tolerance.{Tolerance}
use Rattle.geometry.specs.Point.{point_fit}
use Rattle.refusal.specs.Refusal.{number_of}
use Rattle.refusal.specs.declared.Refusal.{Refusal}
use Rattle.refusal.specs.declared.Refusal.TheVariants as refusal
use Rattle.refusal.specs.Verdict.{Verdict}
use Rattle.refusal.specs.Verdict.{asked, first_refusal}
use Rattle.boxes.specs.declared.boxtree.Aabb.{Aabb}
use Rattle.boxes.specs.Crosses.{crosses_of}

-- not "a low side above its high side"
unfoldable pub sides_fit : Aabb → Bool
sides_fit b = not (b.high.x <? b.low.x) && (not (b.high.y <? b.low.y) && not (b.high.z <? b.low.z))

-- what 17 lets through: "a box number not finite, above 2^20 in magnitude, or a low side above its high side"
unfoldable pub box_fit : Aabb → Bool
box_fit b = point_fit b.low && (point_fit b.high && sides_fit b)

-- 18: "a coordinate not finite or above 2^20 in magnitude"
abbrev pub unfit_at : List Float → ℕ → Bool
unfit_at l i = not (point_fit (point_at l i))

-- whether 18 stops one of the points
unfoldable pub some_unfit : List Float → ℕ → Bool
some_unfit l count = any_in (unfit_at l) 0 count

-- the public crossing's answer
abbrev pub Crossed : Type 0
Crossed = Result Bool Refusal

-- the paper's number for each case (0: not refused), of whatever answer
abbrev pub refusal_of : {A : Type 0} → Result A Refusal → ℕ
refusal_of (Ok answer) = 0
refusal_of (Err r) = number_of r

-- whether the trace is crossed
abbrev pub crossed_of : Crossed → Bool
crossed_of (Ok crosses) = crosses
crossed_of (Err r) = false

-- "Crossing: 5, 8, 12 (count only), 18, 17"
abbrev pub crossing_tests : Tolerance → List Float → ℕ → Aabb → List Verdict
crossing_tests tol l count b =
    asked (tolerance_fit tol) refusal.Tolerance
    ∷ asked (holds_of width l count) refusal.Lent
    ∷ asked (count_fits count) refusal.Claim
    ∷ asked (not (some_unfit l count)) refusal.Coordinate
    ∷ asked (box_fit b) refusal.BoxNumber
    ∷ []

-- the first refusal of the tests
unfoldable pub crossing_fitness : Tolerance → List Float → ℕ → Aabb → Verdict
crossing_fitness tol l count b = first_refusal (crossing_tests tol l count b)

-- where the tests pass, the answer
abbrev pub answer_of : {A : Type 0} → Verdict → A → Result A Refusal
answer_of (Err r) answer = Err r
answer_of (Ok u) answer = Ok answer

-- the public crossing
unfoldable pub crossing_of : Tolerance → List Float → ℕ → Aabb → Crossed
crossing_of tol l count b = answer_of (crossing_fitness tol l count b) (crosses_of l count b tol.confusion)
