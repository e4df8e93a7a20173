use Rattle.std.proofs.Common.{◌≡◌, inl, inr}
use Rattle.analytic.specs.declared.surface.Surface.TheVariants.{Cylinder, Sphere}
use Rattle.patch.specs.Patch.{sizes_fit}
use Rattle.patch.proofs.patch.sizes_fit.Goals as goal

pub returns-in-Plane : goal.returns-in-Plane
unfolding sizes_fit
returns-in-Plane c = rw c.in-Plane.is

pub returns-in-Cylinder : goal.returns-in-Cylinder
unfolding sizes_fit
returns-in-Cylinder c = elim c.in-Cylinder.is [
  | inl e ↦ let is : c.args.surface ≡ Cylinder e.0 c.in-Cylinder.r = e.1 in rw is
  | inr e ↦ let is : c.args.surface ≡ Sphere e.0 c.in-Cylinder.r = e.1 in rw is
]

pub returns-in-Cone : goal.returns-in-Cone
unfolding sizes_fit
returns-in-Cone c = rw (c.in-Cone.is, ← c.cone_fits.ensures)

pub returns-in-Torus : goal.returns-in-Torus
unfolding sizes_fit
returns-in-Torus c = rw (c.in-Torus.is, ← c.both_positive.ensures)
