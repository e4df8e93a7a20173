-- Where a point's coordinate is finite, both its parameters are, whatever the kind.
use lib.Dec.{T}
use lib.Ieee.{Float}
use lib.Ieee.Scale.{finite}
use Rattle.number.specs.Operators.{◌⊕◌, ◌⊗◌}
use Rattle.number.proofs.Finite.{add_finite, mul_finite}
use Rattle.fdlibm.specs.Sine.{sin_of, cos_of}
use Rattle.fdlibm.proofs.Infinite.{cos_finite}
use Rattle.geometry.specs.declared.frame.Frame3D.{Frame3D}
use Rattle.geometry.specs.Vector.{scale_of}
use Rattle.geometry.specs.Point.{add_vector_of}
use Rattle.geometry.specs.Frame.{point_at_of}
use Rattle.analytic.specs.declared.surface.Surface.{Surface}
use Rattle.analytic.specs.declared.surface.Surface.TheVariants.{Plane, Cylinder, Cone, Sphere, Torus}
use Rattle.analytic.specs.Surface.{cone_radius, torus_radius, eval_point}

-- the three numbers along a frame's directions
local_finite : (f : Frame3D) (a b c : Float) → T (finite (point_at_of f a b c).x) → T (finite a) × T (finite b) × T (finite c)
unfolding point_at_of add_vector_of scale_of
local_finite f a b c h =
    let z = add_finite (f.origin.x ⊕ f.x.x ⊗ a ⊕ f.y.x ⊗ b) (f.z.x ⊗ c) h in
    let y = add_finite (f.origin.x ⊕ f.x.x ⊗ a) (f.y.x ⊗ b) z.0 in
    let x = add_finite f.origin.x (f.x.x ⊗ a) y.0 in
    ((mul_finite f.x.x a x.1).1, (mul_finite f.y.x b y.1).1, (mul_finite f.z.x c z.1).1)

-- a radius times the cosine of an angle
turned_finite : (r u : Float) → T (finite (r ⊗ cos_of u)) → T (finite r) × T (finite u)
turned_finite r u h = let m = mul_finite r (cos_of u) h in (m.0, cos_finite u m.1)

pub parameters_finite : (s : Surface) (u v : Float) → T (finite (eval_point s u v).x) → T (finite u) × T (finite v)
unfolding eval_point
parameters_finite (Plane f) u v h = let l = local_finite f _ _ _ h in (l.0, l.1)
parameters_finite (Cylinder f r) u v h = let l = local_finite f _ _ _ h in ((turned_finite r u l.0).1, l.2)
parameters_finite (Cone f r a) u v h =
    let t = turned_finite (cone_radius r a v) u (local_finite f _ _ _ h).0 in
    (t.1, (mul_finite v (sin_of a) (add_finite r (v ⊗ sin_of a) t.0).1).0)
parameters_finite (Sphere f r) u v h =
    let t = turned_finite (r ⊗ cos_of v) u (local_finite f _ _ _ h).0 in
    (t.1, (turned_finite r v t.0).1)
parameters_finite (Torus f maj min) u v h =
    let t = turned_finite (torus_radius maj min v) u (local_finite f _ _ _ h).0 in
    (t.1, (turned_finite min v (add_finite maj (min ⊗ cos_of v) t.0).1).1)
