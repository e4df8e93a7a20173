use Rattle.analytic.proofs.surface.Surface.eval_point.Goals as goal

pub returns-in-Plane : goal.returns-in-Plane
returns-in-Plane c = rw c.in-Plane.is c.plane_d0.ensures

pub returns-in-Cylinder : goal.returns-in-Cylinder
returns-in-Cylinder c = rw c.in-Cylinder.is c.cylinder_d0.ensures

pub returns-in-Cone : goal.returns-in-Cone
returns-in-Cone c = rw c.in-Cone.is c.cone_d0.ensures

pub returns-in-Sphere : goal.returns-in-Sphere
returns-in-Sphere c = rw c.in-Sphere.is c.sphere_d0.ensures

pub returns-in-Torus : goal.returns-in-Torus
returns-in-Torus c = rw c.in-Torus.is c.torus_d0.ensures
