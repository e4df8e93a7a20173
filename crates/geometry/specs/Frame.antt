-- Frames. Definitions only.
use Rattle.std.specs.Prelude.{Float}
use Rattle.geometry.specs.declared.point.Point3D.{Point3D}
use Rattle.geometry.specs.declared.frame.Frame3D.{Frame3D}
use Rattle.geometry.specs.Vector.{scale_of}
use Rattle.geometry.specs.Point.{add_vector_of}

-- point_at: each coordinate is ((origin + a * x) + b * y) + c * z, also where c is 0
unfoldable pub point_at_of : Frame3D → Float → Float → Float → Point3D
unfolding add_vector_of scale_of
point_at_of f a b c = add_vector_of (add_vector_of (add_vector_of f.origin (scale_of f.x a)) (scale_of f.y b)) (scale_of f.z c)
