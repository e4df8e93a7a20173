-- The exact claim on a gap ("at most confusion squared times (1 + 2^-50)"). Definitions only.
use Rattle.std.specs.Prelude.{◌+◌, ◌*◌, ◌^◌, ◌≤◌, T, Float}
use Rattle.std.specs.Float.{binary64}
use Rattle.std.specs.Float.Ieee.{fits}
use Rattle.std.specs.Float.Ieee.Scale.{finite}
use Rattle.number.specs.Units.{mag}
use Rattle.geometry.specs.declared.point.Point3D.{Point3D}
use Rattle.geometry.specs.Point.{exact_square}

-- the coordinates are binary64 numbers, as those of every point that a program works out are
pub record PointFits (p : Point3D) : Type 0 where
  pub x_fits : T (fits binary64 p.x)
  pub y_fits : T (fits binary64 p.y)
  pub z_fits : T (fits binary64 p.z)

-- no coordinate is infinite or a NaN: "finite numbers are whole multiples of 2^-1074"
pub record PointFinite (p : Point3D) : Type 0 where
  pub x_finite : T (finite p.x)
  pub y_finite : T (finite p.y)
  pub z_finite : T (finite p.z)

-- the exact squared gap of p and q is at most c squared times (1 + 2 ^ -50), over whole numbers of units, squared
abbrev pub ExactlyWithin : Point3D → Point3D → Float → Type 0
ExactlyWithin p q c = 2 ^ 50 * exact_square p q ≤ (2 ^ 50 + 1) * (mag c * mag c)
