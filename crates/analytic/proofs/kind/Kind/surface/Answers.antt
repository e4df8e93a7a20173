use Rattle.analytic.proofs.kind.Kind.surface.Goals as goal

pub returns-in-Plane : goal.returns-in-Plane
returns-in-Plane c = rw c.in-Plane.is

pub returns-in-Cylinder : goal.returns-in-Cylinder
returns-in-Cylinder c = rw c.in-Cylinder.is

pub returns-in-Cone : goal.returns-in-Cone
returns-in-Cone c = rw c.in-Cone.is

pub returns-in-Sphere : goal.returns-in-Sphere
returns-in-Sphere c = rw c.in-Sphere.is

pub returns-in-Torus : goal.returns-in-Torus
returns-in-Torus c = rw c.in-Torus.is
