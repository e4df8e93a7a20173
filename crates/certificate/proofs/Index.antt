-- The index that a refusal of the check names is below the count claimed, and so within 01's 4001 points; a closing code is at most 2.
use Rattle.std.specs.Prelude.{Option, Ok, Err}
use mathlib.Core.Path.{◌≡◌}
use mathlib.Core.Bool.{true}
use mathlib.Core.List.{List}
use Prim.Native.Nat.{ℕ, ◌-◌, ◌≤◌, ◌<◌}
use native.Mathlib.Omega.{arith}
use lib.Ieee.{Float}
use Rattle.loops.proofs.Loop.{Kept, searched_keeps_at}
use Rattle.number.specs.Operators.{◌≤?◌}
use Rattle.groups.specs.declared.row.Row.{Row}
use Rattle.groups.specs.Groups.{width, most_points, holds_of}
use Rattle.groups.specs.Row.{point_in, row_of}
use Rattle.refusal.specs.declared.Refusal.TheVariants as refusal
use Rattle.refusal.specs.Verdict.{Verdict}
use Rattle.refusal.specs.Verdict.{index_in}
use Rattle.refusal.proofs.Order.{asked_held, first_each, Below, asked_below}
use Rattle.geometry.specs.declared.tolerance.Tolerance.{Tolerance}
use Rattle.geometry.specs.Point.{distance_of}
use Rattle.patch.specs.declared.patch.Patch.{Patch}
use Rattle.patch.specs.Located.{point_a, point_b}
use Rattle.patch.specs.Patch.{inside_of}
use Rattle.patch.proofs.Fitness.{pair_each}
use Rattle.certificate.specs.Passes.{parameters_in, closing_end, ClosedAs, claimed_open, forward, backward}
use Rattle.certificate.specs.Check.{is_own, own_of, chord_fits, point_tests, point_verdict, stopped, point_body, all_passed, points_verdict, claim_so, check_tests, check_of}
use Rattle.certificate.proofs.Passed.{claimed}

-- point i is named by its own index
point_below : (a b : Patch) (confusion : Float) (before r : Row) (end : Option ℕ) (i : ℕ) → Below i (point_verdict (is_own a) a b confusion before r end i)
unfolding point_verdict
point_below a b confusion before r end i =
    let x = parameters_in r in
    first_each (Below i) (point_tests (is_own a) a b confusion before r end i) (
      asked_below (inside_of a b x) (refusal.OutsideWindow i) i (omega arith),
      λ n. (
        asked_below (own_of (point_in r) (point_a a x)) (refusal.NotOwnPoint i) i (omega arith),
        λ o. (
          asked_below (distance_of (point_a a x) (point_b b x) ≤? confusion) (refusal.Gap i) i (omega arith),
          λ g.
              (asked_below (chord_fits before r end i) (refusal.Chord i) i (omega arith), λ k. omega arith),
        ),
      ),
    )

points_below : (a b : Patch) (confusion : Float) (rows : ℕ → Row) (count : ℕ) (end : Option ℕ) → Below count (points_verdict (is_own a) a b confusion rows count end)
unfolding points_verdict
points_below a b confusion rows count end =
    searched_keeps_at (point_body (is_own a) a b confusion rows end) all_passed (λ i s. Unit {0}) (Below count) 0 count
    (λ i s h p. go i (point_verdict (is_own a) a b confusion (rows (i - 1)) (rows i) end i) h (point_below a b confusion (rows (i - 1)) (rows i) end i))
    (λ s p. omega arith) (omega arith) tt tt
  where
    go : (i : ℕ) (v : Verdict) → i < count → Below i v → Kept (λ (s : Unit {0}). Unit {0}) (Below count) (stopped v)
    go i (Ok u) h b = tt
    go i (Err r) h b = omega (arith, h, b)

pub check_index : (a b : Patch) (tol : Tolerance) (l : List Float) (count start closing : ℕ) → index_in (check_of a b tol l count start closing) ≤ most_points
unfolding check_of
check_index a b tol l count start closing =
    first_each (Below most_points) (check_tests a b tol l count start closing) (
      pair_each (Below most_points) (omega arith) (omega arith) (omega arith) (omega arith) (omega arith) (omega arith) a b tol,
      λ p. (
        asked_below (holds_of width l count) refusal.Lent most_points (omega arith),
        λ h. (
          asked_below (claim_so (row_of l) count start closing) refusal.Claim most_points (omega arith),
          λ c.
              (within (asked_held (claim_so (row_of l) count start closing) refusal.Claim c), λ e. omega arith),
        ),
      ),
    )
  where
    within : claim_so (row_of l) count start closing ≡ true → Below most_points (points_verdict (is_own a) a b tol.confusion (row_of l) count (closing_end count closing))
    within e =
        let m = (claimed (row_of l) count start closing e).1 in
        let b = points_below a b tol.confusion (row_of l) count (closing_end count closing) in
        omega (arith, m, b)

pub code_small : {rows : ℕ → Row} {count start closing : ℕ} → ClosedAs rows count start closing → closing ≤ 2
code_small (claimed_open e) = omega (arith, e)
code_small (forward e s q) = omega (arith, e)
code_small (backward e s q) = omega (arith, e)
