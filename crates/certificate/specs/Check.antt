-- The public check, in 01's order of tests. Definitions only.
use Rattle.std.specs.Prelude.{Bool, true, false, ◌&&◌, List, [], ◌∷◌, ℕ, ◌-◌, eqb, ltb, leb, Float, Option, Ok, Err}
use Rattle.std.specs.Float.Ieee.Scale.{finite}
use Rattle.loops.specs.Loop.{pick, Flow, on, out, searched}
use Rattle.number.specs.Operators.{◌≤?◌}
use Rattle.number.specs.Helpers.{same_bits}
use Rattle.groups.specs.declared.row.Row.{Row}
use Rattle.groups.specs.Groups.{width, count_fits, holds_of}
use Rattle.groups.specs.Row.{numbers_of, point_in, row_of}
use Rattle.refusal.specs.declared.Refusal.TheVariants as refusal
use Rattle.refusal.specs.Verdict.{Verdict}
use Rattle.refusal.specs.Verdict.{asked, first_refusal}
use Rattle.geometry.specs.declared.point.Point3D.{Point3D}
use Rattle.geometry.specs.declared.tolerance.Tolerance.{Tolerance}
use Rattle.geometry.specs.Point.{distance_of, longest_chord}
use Rattle.patch.specs.declared.patch.Patch.{Patch}
use Rattle.patch.specs.Located.{point_a, point_b}
use Rattle.patch.specs.Pair.{pair_fitness}
use Rattle.patch.specs.Patch.{inside_of}
use Rattle.certificate.specs.Passes.{parameters_in, closing_end, ends_at}

-- numbers equal "in bits", one by one
unfoldable pub same_numbers : List Float → List Float → Bool
same_numbers [] [] = true
same_numbers (x ∷ l) (y ∷ m) = same_bits x y && same_numbers l m
same_numbers [] (y ∷ m) = false
same_numbers (x ∷ l) [] = false

-- ---- 13: "not A's own point: a coordinate worked out afresh is not finite, or its bits differ"

-- no coordinate "is not finite"
unfoldable pub finite_point : Point3D → Bool
finite_point p = finite p.x && (finite p.y && finite p.z)

-- the three coordinates
abbrev pub coordinates_of : Point3D → List Float
coordinates_of p = p.x ∷ p.y ∷ p.z ∷ []

-- no coordinate's "bits differ"
abbrev pub same_point : Point3D → Point3D → Bool
same_point p q = same_numbers (coordinates_of p) (coordinates_of q)

-- A's own point: what 13 lets through
unfoldable pub own_of : Point3D → Point3D → Bool
own_of stored fresh = finite_point fresh && same_point stored fresh

-- of a row: its point is A's own at its parameters. The tests of points are over this test, so that one of more numbers is another test
abbrev pub is_own : Patch → Row → Bool
is_own a r = own_of (point_in r) (point_a a (parameters_in r))

-- ---- "point by point 14, 13, 15, 16"

-- what 16 lets through: "computed chord from the point before not at most 0.2, the closing chord not being tested"
unfoldable pub chord_fits : Row → Row → Option ℕ → ℕ → Bool
chord_fits before r end i =
    pick (eqb i 0) true
    (pick (ends_at end i) true
    (distance_of (point_in r) (point_in before) ≤? longest_chord))

-- 14: "a parameter outside a window that has no turn mark; NaN is outside"; 13; 15: "computed gap not at most confusion"; 16
abbrev pub point_tests : (Row → Bool) → Patch → Patch → Float → Row → Row → Option ℕ → ℕ → List Verdict
point_tests own a b confusion before r end i =
    asked (inside_of a b (parameters_in r)) (refusal.OutsideWindow i)
    ∷ asked (own r) (refusal.NotOwnPoint i)
    ∷ asked (distance_of (point_a a (parameters_in r)) (point_b b (parameters_in r)) ≤? confusion) (refusal.Gap i)
    ∷ asked (chord_fits before r end i) (refusal.Chord i)
    ∷ []

-- point i, of row r, after the row before
unfoldable pub point_verdict : (Row → Bool) → Patch → Patch → Float → Row → Row → Option ℕ → ℕ → Verdict
point_verdict own a b confusion before r end i = first_refusal (point_tests own a b confusion before r end i)

-- the first refusal ends the loop over the points
abbrev pub stopped : Verdict → Flow (Unit {0}) Verdict
stopped (Err r) = out (Err r)
stopped (Ok u) = on tt

-- one iteration of it
abbrev pub point_body : (Row → Bool) → Patch → Patch → Float → (ℕ → Row) → Option ℕ → ℕ → Unit {0} → Flow (Unit {0}) Verdict
point_body own a b confusion rows end i s = stopped (point_verdict own a b confusion (rows (i - 1)) (rows i) end i)

-- no point was refused
abbrev pub all_passed : Unit {0} → Verdict
all_passed s = Ok tt

-- all points, from 0 on
unfoldable pub points_verdict : (Row → Bool) → Patch → Patch → Float → (ℕ → Row) → ℕ → Option ℕ → Verdict
points_verdict own a b confusion rows count end = searched (point_body own a b confusion rows end) all_passed 0 count (on tt)

-- ---- 12: "count outside 4 to 4001, start index not below the count, closing code above 2, or a closing that isn't so"

-- the seven numbers of two points
abbrev pub same_row : Row → Row → Bool
same_row p q = same_numbers (numbers_of p) (numbers_of q)

-- "code 1, start index 0 and the last seven numbers equal the first seven in bits; code 2, start index at least 2 and the first seven
-- equal the start's in bits"
unfoldable pub closing_so : (ℕ → Row) → ℕ → ℕ → ℕ → Bool
closing_so rows count start closing =
    pick (eqb closing 0) true
    (pick (eqb closing 1) (eqb start 0 && same_row (rows (count - 1)) (rows 0))
    (eqb closing 2 && (leb 2 start && same_row (rows 0) (rows start))))

-- what 12 lets through
unfoldable pub claim_so : (ℕ → Row) → ℕ → ℕ → ℕ → Bool
claim_so rows count start closing = count_fits count && (ltb start count && closing_so rows count start closing)

-- ---- "Check: A, B, 5, 8, 12, then point by point 14, 13, 15, 16"
abbrev pub check_tests : Patch → Patch → Tolerance → List Float → ℕ → ℕ → ℕ → List Verdict
check_tests a b tol l count start closing =
    pair_fitness a b tol
    ∷ asked (holds_of width l count) refusal.Lent
    ∷ asked (claim_so (row_of l) count start closing) refusal.Claim
    ∷ points_verdict (is_own a) a b tol.confusion (row_of l) count (closing_end count closing)
    ∷ []

-- the public check of the first `count` points of a list
unfoldable pub check_of : Patch → Patch → Tolerance → List Float → ℕ → ℕ → ℕ → Verdict
check_of a b tol l count start closing = first_refusal (check_tests a b tol l count start closing)
