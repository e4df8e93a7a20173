use Rattle.std.proofs.Common.{◌≡◌, refl, true}
use Rattle.geometry.specs.declared.frame.Frame3D.{Frame3D}
use Rattle.analytic.specs.declared.surface.Surface.{Surface}
use Rattle.analytic.specs.declared.surface.Surface.TheVariants.{Plane, Cylinder, Cone, Sphere, Torus}
use Rattle.patch.specs.Patch.{u_is_angle}
use Rattle.patch.proofs.patch.u_is_angle.Goals as goal
use Rattle.patch.proofs.patch.u_is_angle.Goals.{in-Plane, in_default}

no_plane : (s : Surface) → ((f : Frame3D) → s ≡ Plane f → ⊥) → true ≡ u_is_angle s
unfolding u_is_angle
no_plane (Plane f) h = absurd (h f refl)
no_plane (Cylinder f r) h = refl
no_plane (Cone f r a) h = refl
no_plane (Sphere f r) h = refl
no_plane (Torus f maj min) h = refl

pub returns : goal.returns
unfolding u_is_angle
returns c = elim c.match-matches.branch [
  | in-Plane w ↦ rw (w.matches-is, w.in-Plane.is) refl
  | in_default w ↦ rw w.matches-is (no_plane c.args.surface w.in_default.not-Plane)
]
