-- Every number of a trace that passes is finite: a parameter that is not finite makes a coordinate not finite.
use mathlib.Core.Path.{◌≡◌, sym, ap, ◌∙◌, subst}
use mathlib.Core.List.{List}
use Prim.Native.Nat.{ℕ, ◌*◌, ◌/◌, ◌%◌, ◌<◌}
use native.Mathlib.Nat.{div-add-mod}
use native.Mathlib.Omega.{arith}
use lib.Dec.{T}
use lib.Ieee.{Float, nan}
use lib.Ieee.Scale.{finite}
use lib.ListN.{get_or}
use Rattle.number.proofs.Binary64.{AllOf, all_at}
use Rattle.groups.specs.Groups.{width}
use Rattle.groups.specs.Row.{numbers_of, row_at, row_of}
use Rattle.groups.proofs.Rows.{row_there, row_number}
use Rattle.geometry.specs.declared.point.Point3D.{Point3D}
use Rattle.geometry.specs.declared.tolerance.Tolerance.{Tolerance}
use Rattle.analytic.proofs.Finite.{parameters_finite}
use Rattle.patch.specs.declared.patch.Patch.{Patch}
use Rattle.certificate.specs.Passes.{Passes}
use Rattle.certificate.proofs.Exact.{passes_finite}

abbrev Finite : Float → Type 0
Finite x = T (finite x)

module _ {a b : Patch} {tol : Tolerance} {l : List Float} {count start closing : ℕ} (p : Passes a b tol l count start closing) where
  -- the numbers of one point: A's own coordinates, which are finite, and the parameters of both surfaces' finite points
  row_finite : (i : ℕ) → i < count → AllOf Finite (numbers_of (row_of l i))
  row_finite i h =
      let r = row_of l i in
      let q = p.points i h in
      let on-a = parameters_finite a.surface r.u1 r.v1 q.finite_x in
      let on-b = parameters_finite b.surface r.u2 r.v2 (passes_finite p i h).1.x_finite in
      let own : (axis : Point3D → Float) → _ = λ axis. ap axis (sym q.own) in
      (subst Finite (own (λ z. z.x)) q.finite_x, (subst Finite (own (λ z. z.y)) q.finite_y, (subst Finite (own (λ z. z.z)) q.finite_z, (on-a.0, (on-a.1, (on-b.0, (on-b.1, tt)))))))

  pub numbers_finite : (k : ℕ) → k < width * count → T (finite (get_or l k nan))
  numbers_finite k h =
      let i = k / width in
      let j = k % width in
      let n = p.lent in
      let below : i < count = omega arith in
      let there : row_of l i ≡ row_at l i = row_there l i (omega arith) in
      subst Finite
      (ap (λ z. get_or (numbers_of z) j nan) there ∙ row_number l i j (omega arith) ∙ ap (λ (m : ℕ). get_or l m nan) (div-add-mod k width))
      (all_at Finite (numbers_of (row_of l i)) (row_finite i below) j (omega arith))
