-- A correction of Newton's method in `meet` and `land` of marching.rs. Definitions only.
use Rattle.std.specs.Prelude.{◌≡◌, ℕ, ◌≤◌, ◌<◌, eqb, ltb, Float, List, [], ◌∷◌, ◌++◌, ◌+◌, get_or, Result, Ok, Err}
use Rattle.std.specs.Float.{nan}
use Rattle.std.specs.Float.Ieee.{neg}
use Rattle.loops.specs.Loop.{pick}
use Rattle.patch.specs.declared.patch.Parameters.{Parameters}
use Rattle.number.specs.Operators.{bits, ◌⊕◌, ◌⊗◌}
use Rattle.number.specs.Helpers.{sum_start}
use Rattle.geometry.specs.declared.vector.Vector3D.{Vector3D}
use Rattle.geometry.specs.declared.point.Point3D.{Point3D}
use Rattle.geometry.specs.Vector.{vector_of, dot_of, neg_of}
use Rattle.geometry.specs.Point.{difference_of}
use Rattle.patch.specs.declared.patch.Patch.{Patch}
use Rattle.analytic.specs.Surface.{eval_d1}
use Rattle.patch.specs.Located.{point_a, point_b}
use Rattle.solve.specs.declared.Singular.{Singular}
use Rattle.solve.specs.Cramer.{solver_tol}
use Rattle.solve.specs.Solve.{Solved, solve_of}
use Rattle.meeting.specs.declared.correction.Target.{Target}
use Rattle.meeting.specs.declared.correction.Target.TheVariants.{Free, Plane, Pin}
use Rattle.meeting.specs.declared.correction.Residual.{Residual}

-- the k-th of four, 0 to 3; an index above 3 counts as 3
abbrev pub of_four : {A : Type 0} → ℕ → A → A → A → A → A
of_four k a b c d = pick (eqb k 0) a (pick (eqb k 1) b (pick (eqb k 2) c d))

-- the Rust's x[k] of x = [u1, v1, u2, v2]
unfoldable pub parameter_of : Parameters → ℕ → Float
parameter_of x k = of_four k x.u1 x.v1 x.u2 x.v2

-- x with x[k] = value
unfoldable pub with_parameter : Parameters → ℕ → Float → Parameters
with_parameter x k value =
    of_four k
    (record { u1 = value; v1 = x.v1; u2 = x.u2; v2 = x.v2 })
    (record { u1 = x.u1; v1 = value; u2 = x.u2; v2 = x.v2 })
    (record { u1 = x.u1; v1 = x.v1; u2 = value; v2 = x.v2 })
    (record { u1 = x.u1; v1 = x.v1; u2 = x.u2; v2 = value })

-- "plane offset": (pa - origin) . normal, and 0 without a plane
unfoldable pub offset_of : Target → Point3D → Float
offset_of Free p = bits 0
offset_of (Plane origin normal) p = dot_of (difference_of p origin) normal
offset_of (Pin k) p = bits 0

-- the merit f . f + r * r
abbrev pub merit_of : Vector3D → Float → Float
merit_of f r = dot_of f f ⊕ r ⊗ r

-- the difference of A's and B's points at x, the plane offset, and the merit
unfoldable pub residual_of : Patch → Patch → Target → Parameters → Residual
residual_of a b target x = record {
  x = x;
  f = difference_of (point_a a x) (point_b b x);
  r = offset_of target (point_a a x);
  merit = merit_of (difference_of (point_a a x) (point_b b x)) (offset_of target (point_a a x));
}

-- [au, av, -bu, -bv]
unfoldable pub columns_of : Patch → Patch → Parameters → List Vector3D
columns_of a b x =
    (eval_d1 a.surface x.u1 x.v1).u
    ∷ (eval_d1 a.surface x.u1 x.v1).v
    ∷ neg_of (eval_d1 b.surface x.u2 x.v2).u
    ∷ neg_of (eval_d1 b.surface x.u2 x.v2).v
    ∷ []

-- the Rust's cols[k]; k is one of four
abbrev pub column_of : List Vector3D → ℕ → Vector3D
column_of c k = get_or c k (record { x = nan; y = nan; z = nan })

-- `cols.map(|c| c.x)`: a row is one coordinate of the four columns
abbrev pub row_of : List Vector3D → (Vector3D → Float) → List Float
row_of c p = p (column_of c 0) ∷ p (column_of c 1) ∷ p (column_of c 2) ∷ p (column_of c 3) ∷ []

-- the rows of J
abbrev pub rows_of : List Vector3D → List (List Float)
rows_of c = row_of c (λ v. v.x) ∷ row_of c (λ v. v.y) ∷ row_of c (λ v. v.z) ∷ []

-- "`sum` starts from the zero of the oracle's toolchain": -0
unfoldable pub dot4_of : List Float → List Float → Float
dot4_of p q =
    sum_start ⊕ get_or p 0 nan ⊗ get_or q 0 nan ⊕ get_or p 1 nan ⊗ get_or q 1 nan ⊕ get_or p 2 nan ⊗ get_or q 2 nan ⊕ get_or p 3 nan ⊗ get_or q 3 nan

-- the Rust's `dot(p, q)` of two rows
abbrev pub row_dot : List Vector3D → (Vector3D → Float) → (Vector3D → Float) → Float
row_dot c p q = dot4_of (row_of c p) (row_of c q)

-- J J^T of the minimum-norm correction: `rows.map(|p| rows.map(|q| dot(p, q)))`
unfoldable pub normal_matrix : List Vector3D → List (List Float)
normal_matrix c =
    let x : Vector3D → Float = λ v. v.x in
    let y : Vector3D → Float = λ v. v.y in
    let z : Vector3D → Float = λ v. v.z in
    (row_dot c x x ∷ row_dot c x y ∷ row_dot c x z ∷ [])
    ∷ (row_dot c y x ∷ row_dot c y y ∷ row_dot c y z ∷ [])
    ∷ (row_dot c z x ∷ row_dot c z y ∷ row_dot c z z ∷ [])
    ∷ []

-- the right side -f
abbrev pub minus : Vector3D → List Float
minus f = neg f.x ∷ neg f.y ∷ neg f.z ∷ []

-- the change of the parameters, or the column at which the solver gave up
abbrev pub Correction : Type 0
Correction = Result Parameters Singular

-- the Rust's minimum-norm step, `J^T y` with `J J^T y = -f`
abbrev pub minimum_norm : List Vector3D → Solved → Correction
minimum_norm c (Err e) = Err e
minimum_norm c (Ok s) =
    let y = vector_of (get_or s 0 nan) (get_or s 1 nan) (get_or s 2 nan) in
    Ok (record { u1 = dot_of (column_of c 0) y; v1 = dot_of (column_of c 1) y; u2 = dot_of (column_of c 2) y; v2 = dot_of (column_of c 3) y })

-- the correction without a plane and without a pin, solved with "tol is 1e-12 throughout"
unfoldable pub free_correction : List Vector3D → Vector3D → Correction
free_correction c f = minimum_norm c (solve_of 3 (normal_matrix c) (minus f) solver_tol)

-- the solution of four unknowns as a correction
abbrev pub by_four : Solved → Correction
by_four (Err e) = Err e
by_four (Ok d) = Ok (record { u1 = get_or d 0 nan; v1 = get_or d 1 nan; u2 = get_or d 2 nan; v2 = get_or d 3 nan })

-- with the plane: three rows of coordinates, and the columns' products with the normal
unfoldable pub plane_correction : List Vector3D → Vector3D → Vector3D → Float → Correction
plane_correction c normal f r =
    by_four
    (solve_of 4
    (rows_of c ++ ((dot_of (column_of c 0) normal ∷ dot_of (column_of c 1) normal ∷ bits 0 ∷ bits 0 ∷ []) ∷ []))
    (neg f.x ∷ neg f.y ∷ neg f.z ∷ neg r ∷ [])
    solver_tol)

-- 02, A4: "counted from 0, the i-th free index is i below the pin and i + 1 from the pin on"
unfoldable pub free_at : ℕ → ℕ → ℕ
free_at pin i = pick (ltb i pin) i (i + 1)

-- 02, A4: "For each pin this is proved to name exactly the other three, rising": three of the indices 0 to 3
pub record NamesOthers (pin : ℕ) (free : ℕ → ℕ) : Type 0 where
  pub rising : (i j : ℕ) → i < j → j < 3 → free i < free j
  pub others : (i : ℕ) → i < 3 → free i ≡ pin → ⊥
  pub within : (i : ℕ) → i < 3 → free i ≤ 3
  pub every : pin ≤ 3 → (k : ℕ) → k ≤ 3 → (k ≡ pin → ⊥) → (i : ℕ) × (i < 3) × (free i ≡ k)

-- the three changes in their places, and 0 in the pinned one's
unfoldable pub placed_of : ℕ → List Float → Parameters
placed_of pin d =
    with_parameter (with_parameter (with_parameter (record { u1 = bits 0; v1 = bits 0; u2 = bits 0; v2 = bits 0 }) (free_at pin 0) (get_or d 0 nan)) (free_at pin 1) (get_or d 1 nan)) (free_at pin 2) (get_or d 2 nan)

-- the solution of three unknowns as a correction
abbrev pub by_three : ℕ → Solved → Correction
by_three pin (Err e) = Err e
by_three pin (Ok d) = Ok (placed_of pin d)

-- three columns as a matrix of rows
abbrev pub free_rows : Vector3D → Vector3D → Vector3D → List (List Float)
free_rows p q s = (p.x ∷ q.x ∷ s.x ∷ []) ∷ (p.y ∷ q.y ∷ s.y ∷ []) ∷ (p.z ∷ q.z ∷ s.z ∷ []) ∷ []

-- "`land` does the same without plane, one parameter pinned": the columns of the free parameters
unfoldable pub pin_correction : List Vector3D → ℕ → Vector3D → Correction
pin_correction c pin f = by_three pin (solve_of 3 (free_rows (column_of c (free_at pin 0)) (column_of c (free_at pin 1)) (column_of c (free_at pin 2))) (minus f) solver_tol)

-- the correction for what is solved beside the meeting
unfoldable pub correction_of : Patch → Patch → Target → Residual → Correction
correction_of a b Free s = free_correction (columns_of a b s.x) s.f
correction_of a b (Plane origin normal) s = plane_correction (columns_of a b s.x) normal s.f s.r
correction_of a b (Pin k) s = pin_correction (columns_of a b s.x) k s.f

-- x + scale * d
abbrev pub all_shifted : Parameters → Parameters → Float → Parameters
all_shifted x d scale = record {
  u1 = x.u1 ⊕ scale ⊗ d.u1;
  v1 = x.v1 ⊕ scale ⊗ d.v1;
  u2 = x.u2 ⊕ scale ⊗ d.u2;
  v2 = x.v2 ⊕ scale ⊗ d.v2;
}

-- a trial's parameters; a pinned one keeps its value
unfoldable pub shifted_of : Target → Parameters → Parameters → Float → Parameters
shifted_of Free x d scale = all_shifted x d scale
shifted_of (Plane origin normal) x d scale = all_shifted x d scale
shifted_of (Pin k) x d scale = with_parameter (all_shifted x d scale) k (parameter_of x k)
