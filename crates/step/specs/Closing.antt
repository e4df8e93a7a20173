-- When a half has come round, and how long a stride may be: the formulas of the Rust's `trace`. Definitions only.
use Rattle.std.specs.Prelude.{Bool, ◌&&◌, Float}
use Rattle.number.specs.Operators.{bits, ◌⊕◌, ◌⊗◌, ◌⊘◌, ◌≤?◌}
use Rattle.number.specs.Helpers.{two, one, max_of, min_of, min_positive}
use Rattle.sqrt.specs.Sqrt.{sqrt_of}
use Rattle.geometry.specs.declared.point.Point3D.{Point3D}
use Rattle.geometry.specs.Vector.{dot_of, scale_of}
use Rattle.geometry.specs.Point.{distance_of, add_vector_of, difference_of}
use Rattle.step.specs.Attempt.{chord_deviation}
use Rattle.step.specs.Shorten.{longest_stride}

-- (start - p).dot(q - p) / (q - p).dot(q - p).max(f64::MIN_POSITIVE)
unfoldable pub along_of : Point3D → Point3D → Point3D → Float
along_of start p q = dot_of (difference_of start p) (difference_of q p) ⊘ max_of (dot_of (difference_of q p) (difference_of q p)) min_positive

-- the point of the chord that far along
abbrev pub nearest_of : Point3D → Point3D → Float → Point3D
nearest_of p q along = add_vector_of p (scale_of (difference_of q p) along)

-- 4.0 * chord_deviation + 10.0 * tol.confusion
abbrev pub closing_distance : Float → Float
closing_distance confusion = bits 0x4010_0000_0000_0000 ⊗ chord_deviation confusion ⊕ bits 0x4024_0000_0000_0000 ⊗ confusion

-- (0.0..=1.0).contains(&along), and (p + (q - p) * along).distance(start) within that distance
abbrev pub closes_at : Float → Point3D → Point3D → Point3D → Float → Bool
closes_at confusion start p q along = bits 0 ≤? along && (along ≤? one && distance_of (nearest_of p q along) start ≤? closing_distance confusion)

-- the same with `along` worked out: whether the chord from p to q closes the loop
unfoldable pub closes_of : Float → Point3D → Point3D → Point3D → Bool
closes_of confusion start p q = closes_at confusion start p q (along_of start p q)

-- 8.0 * chord_deviation: a chord of length h deviates by h * h * curvature / 8
abbrev pub eight_deviations : Float → Float
eight_deviations confusion = bits 0x4020_0000_0000_0000 ⊗ chord_deviation confusion

-- (8.0 * chord_deviation).sqrt().min(H_MAX)
unfoldable pub first_stride : Float → Float
first_stride confusion = min_of (sqrt_of (eight_deviations confusion)) longest_stride

-- (2.0 * h).min(H_MAX).min((8.0 * chord_deviation / curvature.max(f64::MIN_POSITIVE)).sqrt())
unfoldable pub next_stride : Float → Float → Float → Float
next_stride confusion h curvature = min_of (min_of (two ⊗ h) longest_stride) (sqrt_of (eight_deviations confusion ⊘ max_of curvature min_positive))
