-- STATEMENT 3: what a trace that passes says of the exact gaps.
use Prim.Native.Nat.{ℕ, ◌<◌}
use mathlib.Core.List.{List}
use lib.Ieee.{Float}
use Rattle.geometry.specs.declared.tolerance.Tolerance.{Tolerance}
use Rattle.geometry.specs.declared.point.Point3D.{Point3D}
use Rattle.gap.specs.Gap.{PointFinite, ExactlyWithin}
use Rattle.gap.proofs.Gap.{exact_gap, fit_tolerance, finite_between, gap_finite}
use Rattle.patch.specs.declared.patch.Patch.{Patch}
use Rattle.patch.specs.Located.{point_a, point_b}
use Rattle.certificate.specs.Passes.{parameters_at, Passes}
use Rattle.certificate.proofs.Bits.{fresh_fits}

-- At every point of a trace for which `Passes` holds, A's point and B's, both worked out afresh at its parameters, are finite, and 2 ^ 50 times
-- the exact sum of their three squared differences is at most 2 ^ 50 + 1 times confusion squared, all in whole multiples of 2 ^ -1074 (squared).
module _ {a b : Patch} {tol : Tolerance} {l : List Float} {count start closing : ℕ} (p : Passes a b tol l count start closing) (i : ℕ) (h : i < count) where
  abbrev fresh_a : Point3D
  fresh_a = point_a a (parameters_at l i)

  abbrev fresh_b : Point3D
  fresh_b = point_b b (parameters_at l i)

  pub passes_finite : PointFinite fresh_a × PointFinite fresh_b
  passes_finite =
      let t = fit_tolerance tol p.tolerance in
      gap_finite fresh_a fresh_b tol.confusion (finite_between tol.confusion t.0 t.1) (p.points i h).gap

  pub passes_exact : ExactlyWithin fresh_a fresh_b tol.confusion
  passes_exact =
      let x = parameters_at l i in
      let t = fit_tolerance tol p.tolerance in
      exact_gap fresh_a fresh_b tol.confusion (fresh_fits a.surface x.u1 x.v1) (fresh_fits b.surface x.u2 x.v2) t.0 t.1 (p.points i h).gap
