use Rattle.std.proofs.Common.{◌≡◌, Float, refl, false}
use Rattle.geometry.specs.declared.frame.Frame3D.{Frame3D}
use Rattle.analytic.specs.declared.surface.Surface.{Surface}
use Rattle.analytic.specs.declared.surface.Surface.TheVariants.{Plane, Cylinder, Cone, Sphere, Torus}
use Rattle.patch.specs.Patch.{v_is_angle}
use Rattle.patch.proofs.patch.v_is_angle.Goals as goal

pub returns-in-Torus : goal.returns-in-Torus
unfolding v_is_angle
returns-in-Torus c = rw c.in-Torus.is

no_torus : (s : Surface) → ((f : Frame3D) (a b : Float) → s ≡ Torus f a b → ⊥) → false ≡ v_is_angle s
unfolding v_is_angle
no_torus (Plane f) h = refl
no_torus (Cylinder f r) h = refl
no_torus (Cone f r a) h = refl
no_torus (Sphere f r) h = refl
no_torus (Torus f maj min) h = absurd (h f maj min refl)

pub returns-in_default : goal.returns-in_default
returns-in_default c = no_torus c.args.surface c.in_default.not-Torus
