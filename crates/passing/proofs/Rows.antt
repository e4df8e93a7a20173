-- The rows of a line in the lent buffer, and that a row of good parameters passes.
use mathlib.Core.Path.{◌≡◌, refl, ap, sym, subst, ◌∙◌}
use mathlib.Core.Bool.{false}
use mathlib.Core.List.{List, [], ◌∷◌, ◌++◌}
use Prim.Native.Nat.{ℕ, zero, suc, ◌+◌, ◌-◌, ◌*◌, ◌≤◌, ◌<◌}
use native.Mathlib.Omega.{arith}
use lib.Dec.{T}
use lib.Ieee.{Float, nan}
use lib.ListN.{length, get_or, length-append}
use lib.Seq.{get_or-append-add}
use Rattle.number.specs.Operators.{◌≤?◌}
use Rattle.groups.specs.Groups.{width, least_points}
use Rattle.groups.specs.declared.row.Row.{Row}
use Rattle.groups.specs.Row.{numbers_of, point_in, row_at, row_of}
use Rattle.groups.proofs.Rows.{row_there}
use Rattle.geometry.specs.declared.point.Point3D.{Point3D}
use Rattle.geometry.specs.declared.tolerance.Tolerance.{Tolerance}
use Rattle.geometry.specs.Tolerance.{tolerance_fit}
use Rattle.geometry.specs.Point.{distance_of, longest_chord}
use Rattle.patch.specs.declared.patch.Patch.{Patch}
use Rattle.patch.specs.declared.patch.Parameters.{Parameters}
use Rattle.patch.specs.Located.{point_a}
use Rattle.meeting.specs.Intersection.{IsIntersection}
use Rattle.meeting.proofs.Intersection.{intersection_finite}
use Rattle.certificate.specs.Passes.{closing_chord, PointPasses, ClosedAs, claimed_open, forward, backward, Passes}
use Rattle.walk.specs.Lent.{own_row, rows_of}
use Rattle.walk.proofs.Rows.{rows_length}
use Rattle.walk.proofs.Calls.{CallFit}
use Rattle.std.proofs.lemmas.List.Elements.{All-get_or}
use Rattle.passing.proofs.Lines.{Round, not_round, round_forward, round_back, LineFine}

-- ---- row i is the i-th point's

row_beyond : (r : Row) (t : List Float) (i k m : ℕ) → m ≡ width + (width * i + k) → get_or (numbers_of r ++ t) m nan ≡ get_or t (width * i + k) nan
row_beyond r t i k m e = ap (λ (j : ℕ). get_or (numbers_of r ++ t) j nan) e ∙ get_or-append-add (numbers_of r) t (width * i + k) nan

row_past : (r : Row) (t : List Float) (i : ℕ) → row_at (numbers_of r ++ t) (suc i) ≡ row_at t i
row_past r t i =
    let e0 : get_or (numbers_of r ++ t) (width * suc i) nan ≡ get_or t (width * i) nan =
    row_beyond r t i 0 (width * suc i) (omega arith) ∙ ap (λ (j : ℕ). get_or t j nan) (let e : width * i + 0 ≡ width * i = omega arith in e) in
    let e1 = row_beyond r t i 1 (width * suc i + 1) (omega arith) in
    let e2 = row_beyond r t i 2 (width * suc i + 2) (omega arith) in
    let e3 = row_beyond r t i 3 (width * suc i + 3) (omega arith) in
    let e4 = row_beyond r t i 4 (width * suc i + 4) (omega arith) in
    let e5 = row_beyond r t i 5 (width * suc i + 5) (omega arith) in
    let e6 = row_beyond r t i 6 (width * suc i + 6) (omega arith) in
    λ k. record { x = e0 k; y = e1 k; z = e2 k; u1 = e3 k; v1 = e4 k; u2 = e5 k; v2 = e6 k }

row_of_lem : (row : Parameters → Row) (points : List Parameters) (rest : List Float) (d : Parameters) (i : ℕ) → i < length points
    → row_at (rows_of row points ++ rest) i ≡ row (get_or points i d)
unfolding rows_of
row_of_lem row [] rest d i h = absurd (let e : ⊥ = omega arith in e)
row_of_lem row (y ∷ ys) rest d zero h = refl
row_of_lem row (y ∷ ys) rest d (suc i) h = row_past (row y) (rows_of row ys ++ rest) i ∙ row_of_lem row ys rest d i (omega arith)

-- ---- one row

good_row : (a b : Patch) (tol : Tolerance) → T (tolerance_fit tol) → (y : Parameters) → IsIntersection a b tol.confusion y → PointPasses a b tol (own_row a y)
good_row a b tol fit y g =
    let f = (intersection_finite a b tol fit y g).0 in
    record { inside = g.inside; finite_x = f.x_finite; finite_y = f.y_finite; finite_z = f.z_finite; own = refl; gap = g.gap }

-- ---- a line in the buffer

module _ {a b : Patch} {tol : Tolerance} {n : ℕ} {before : List Float} (f : CallFit a b tol n before) (x : Parameters) {points : List Parameters} {start closing : ℕ}
    (v : LineFine a b tol.confusion x n points start closing) (rest : List Float) where
  abbrev l : List Float
  l = rows_of (own_row a) points ++ rest

  lent : width * length points ≤ length l
  lent = let e = length-append (rows_of (own_row a) points) rest in let s = rows_length (own_row a) points in omega (arith, e, s)

  row_is : (i : ℕ) → i < length points → row_of l i ≡ own_row a (get_or points i x)
  row_is i h = row_there l i (let n = lent in omega (arith, n, h)) ∙ row_of_lem (own_row a) points rest x i h

  point_passes : (i : ℕ) → i < length points → PointPasses a b tol (row_of l i)
  point_passes i h =
      subst (PointPasses a b tol) (sym (row_is i h)) (good_row a b tol f.tolerance (get_or points i x) (All-get_or (IsIntersection a b tol.confusion) points i x h v.good))

  point_is : (i : ℕ) → i < length points → point_in (row_of l i) ≡ point_a a (get_or points i x)
  point_is i h = ap point_in (row_is i h)

  chord_passes : (i : ℕ) → 0 < i → i < length points → closing_chord (length points) closing i ≡ false → T (distance_of (point_in (row_of l i)) (point_in (row_of l (i - 1))) ≤? longest_chord)
  chord_passes zero z h c = absurd (let e : ⊥ = omega arith in e)
  chord_passes (suc j) z h c =
      subst (λ (k : ℕ). T (distance_of (point_in (row_of l (suc j))) (point_in (row_of l k)) ≤? longest_chord)) (let e : j ≡ suc j - 1 = omega arith in e)
      (subst (λ (p : Point3D). T (distance_of p (point_in (row_of l j)) ≤? longest_chord)) (sym (point_is (suc j) h))
      (subst (λ (p : Point3D). T (distance_of (point_a a (get_or points (suc j) x)) p ≤? longest_chord)) (sym (point_is j (omega arith)))
      (v.chords j h c)))

  -- equal parameters, equal rows
  rows_same : (i j : ℕ) → i < length points → j < length points → get_or points i x ≡ get_or points j x → row_of l i ≡ row_of l j
  rows_same i j h k e = row_is i h ∙ ap (own_row a) e ∙ sym (row_is j k)

  closed_as : Round x points start closing → ClosedAs (row_of l) (length points) start closing
  closed_as (not_round e) = claimed_open e
  closed_as (round_forward e s q) = let m = v.among in forward e s (rows_same (length points - 1) 0 (omega (arith, m)) (omega (arith, m)) q)
  closed_as (round_back e s q) = let m = v.among in backward e s (rows_same 0 start (omega (arith, m)) m q)

  pub line_passes : least_points ≤ length points → Passes a b tol l (length points) start closing
  line_passes least = record {
    fit_a = f.fit_a_lem;
    fit_b = f.fit_b_lem;
    tolerance = f.tolerance;
    lent = lent;
    least = least;
    most = let k = v.few in let c = f.cap in omega arith;
    among = v.among;
    closed = closed_as v.closed;
    points = point_passes;
    chords = chord_passes;
  }
