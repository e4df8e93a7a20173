-- What it means that a trace passes: the mission's conditions, one by one. Definitions only.
use Rattle.std.specs.Prelude.{◌≡◌, Bool, false, List, ℕ, ◌-◌, ◌*◌, ◌≤◌, ◌<◌, T, eqb, length, Float, Option, Some, None, Ok}
use Rattle.std.specs.Float.Ieee.Scale.{finite}
use Rattle.loops.specs.Loop.{pick}
use Rattle.number.specs.Operators.{◌≤?◌}
use Rattle.groups.specs.declared.row.Row.{Row}
use Rattle.groups.specs.Groups.{width, least_points, most_points}
use Rattle.groups.specs.Row.{point_in, row_of}
use Rattle.geometry.specs.declared.tolerance.Tolerance.{Tolerance}
use Rattle.geometry.specs.Point.{distance_of, longest_chord}
use Rattle.geometry.specs.Tolerance.{tolerance_fit}
use Rattle.patch.specs.declared.patch.Patch.{Patch}
use Rattle.patch.specs.declared.patch.Parameters.{Parameters}
use Rattle.patch.specs.Located.{point_a, point_b}
use Rattle.patch.specs.Patch.{fitness_of, inside_of}

-- the parameters beside the coordinates: "then u, v on A and u, v on B"
abbrev pub parameters_in : Row → Parameters
parameters_in r = record { u1 = r.u1; v1 = r.v1; u2 = r.u2; v2 = r.v2 }

-- those of point i of a list
abbrev pub parameters_at : List Float → ℕ → Parameters
parameters_at l i = parameters_in (row_of l i)

-- "The closing chord is the last under code 1, the first under code 2; an open trace has none": the point that it comes to from the one before
abbrev pub closing_end : ℕ → ℕ → Option ℕ
closing_end count closing = pick (eqb closing 1) (Some (count - 1)) (pick (eqb closing 2) (Some 1) None)

-- point i is that one
abbrev pub ends_at : Option ℕ → ℕ → Bool
ends_at None i = false
ends_at (Some k) i = eqb i k

-- the chord to point i from the one before is the closing one
abbrev pub closing_chord : ℕ → ℕ → ℕ → Bool
closing_chord count closing i = ends_at (closing_end count closing) i

-- the parameters of a point are inside the windows that apply; A's point worked out afresh at them is finite and is the point itself (equal as
-- values of the logic, which has one NaN and two zeros: equal in bits); its computed gap to B's is at most the confusion
pub record PointPasses (a b : Patch) (tol : Tolerance) (r : Row) : Type 0 where
  pub inside : T (inside_of a b (parameters_in r))
  pub finite_x : T (finite (point_a a (parameters_in r)).x)
  pub finite_y : T (finite (point_a a (parameters_in r)).y)
  pub finite_z : T (finite (point_a a (parameters_in r)).z)
  pub own : point_in r ≡ point_a a (parameters_in r)
  pub gap : T (distance_of (point_a a (parameters_in r)) (point_b b (parameters_in r)) ≤? tol.confusion)

-- "A closing is so when": an open trace claims nothing
pub data ClosedAs (rows : ℕ → Row) (count start closing : ℕ) : Type 0 where
  claimed_open : closing ≡ 0 → ClosedAs rows count start closing
  -- "code 1, start index 0 and the last seven numbers equal the first seven in bits"
  forward : closing ≡ 1 → start ≡ 0 → rows (count - 1) ≡ rows 0 → ClosedAs rows count start closing
  -- "code 2, start index at least 2 and the first seven equal the start's in bits"
  backward : closing ≡ 2 → 2 ≤ start → rows 0 ≡ rows start → ClosedAs rows count start closing

-- the trace of `count` points at the head of the list l passes
pub record Passes (a b : Patch) (tol : Tolerance) (l : List Float) (count start closing : ℕ) : Type 0 where
  -- surfaces and tolerance are fit ("when 1 to 5 let them through")
  pub fit_a : fitness_of a ≡ Ok tt
  pub fit_b : fitness_of b ≡ Ok tt
  pub tolerance : T (tolerance_fit tol)
  -- all its numbers are lent
  pub lent : width * count ≤ length l
  -- 4 to 4001 points, the start among them
  pub least : least_points ≤ count
  pub most : count ≤ most_points
  pub among : start < count
  -- closed as it claims
  pub closed : ClosedAs (row_of l) count start closing
  -- every point passes
  pub points : (i : ℕ) → i < count → PointPasses a b tol (row_of l i)
  -- every computed chord but the closing one is at most 0.2
  pub chords : (i : ℕ) → 0 < i → i < count → closing_chord count closing i ≡ false → T (distance_of (point_in (row_of l i)) (point_in (row_of l (i - 1))) ≤? longest_chord)
