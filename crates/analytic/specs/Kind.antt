-- The five kinds by their numbers, and the surface of each. Definitions only.
use Rattle.std.specs.Prelude.{◌≡◌, ◌<◌, ℕ, Float, Result, MatchResult}
use Rattle.geometry.specs.declared.frame.Frame3D.{Frame3D}
use Rattle.analytic.specs.declared.kind.Kind.{Kind}
use Rattle.analytic.specs.declared.kind.Kind.TheVariants as kind
use Rattle.analytic.specs.declared.kind.UnknownKind.{UnknownKind}
use Rattle.analytic.specs.declared.surface.Surface.{Surface}
use Rattle.analytic.specs.declared.surface.Surface.TheVariants.{Plane, Cylinder, Cone, Sphere, Torus}

-- "a kind byte (0 plane, 1 cylinder, 2 cone, 3 sphere, 4 torus)"
abbrev pub number_of : Kind → ℕ
number_of kind.Plane = 0
number_of kind.Cylinder = 1
number_of kind.Cone = 2
number_of kind.Sphere = 3
number_of kind.Torus = 4

-- the kind that has this number, or an error for a "kind above 4"
abbrev pub Decodes : ℕ → Result Kind UnknownKind → Type 0
Decodes n r = MatchResult r (λ k. number_of k ≡ n) (λ e. 4 < n)

-- "two sizes (the cone's are radius, semi-angle; the torus's major, minor)"; "Used sizes come first"
abbrev pub surface_as : Kind → Frame3D → Float → Float → Surface
surface_as kind.Plane f first second = Plane f
surface_as kind.Cylinder f first second = Cylinder f first
surface_as kind.Cone f first second = Cone f first second
surface_as kind.Sphere f first second = Sphere f first
surface_as kind.Torus f first second = Torus f first second
