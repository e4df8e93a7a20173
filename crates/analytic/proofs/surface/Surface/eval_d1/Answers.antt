use Rattle.analytic.specs.Surface.{eval_d1}
use Rattle.analytic.proofs.surface.Surface.eval_d1.Goals as goal

pub returns-in-Plane : goal.returns-in-Plane
unfolding eval_d1
returns-in-Plane c = rw c.in-Plane.is

pub returns-in-Cylinder : goal.returns-in-Cylinder
returns-in-Cylinder c = rw c.in-Cylinder.is c.cylinder_derivatives.ensures

pub returns-in-Cone : goal.returns-in-Cone
returns-in-Cone c = rw c.in-Cone.is c.cone_derivatives.ensures

pub returns-in-Sphere : goal.returns-in-Sphere
returns-in-Sphere c = rw c.in-Sphere.is c.sphere_derivatives.ensures

pub returns-in-Torus : goal.returns-in-Torus
returns-in-Torus c = rw c.in-Torus.is c.torus_derivatives.ensures
