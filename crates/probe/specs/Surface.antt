-- What the probes of surfaces answer and write. Definitions only.
use Rattle.std.specs.Prelude.{List, ℕ, eqb, ltb, length, get_or, Float}
use Rattle.std.specs.Float.{nan}
use Rattle.loops.specs.Loop.{pick}
use Rattle.probe.specs.Probe.{Probed, probed}
use Rattle.probe.specs.Call.{frame_from, put_three}
use Rattle.geometry.specs.declared.point.Point3D.{Point3D}
use Rattle.analytic.specs.declared.surface.Surface.{Surface}
use Rattle.analytic.specs.declared.analytic.Derivatives.{Derivatives}
use Rattle.analytic.specs.Surface.{eval_point, eval_d1}
use Rattle.job.specs.File.{surface_of}

-- origin, x, y and z direction, two sizes; the kinds are the job file's
unfoldable pub asked_surface : ℕ → List Float → Surface
asked_surface kind s = surface_of kind (frame_from s 0) (get_or s 12 nan) (get_or s 13 nan)

-- x, y and z at the front
abbrev pub put_point : List Float → Point3D → List Float
put_point t p = put_three t 0 p.x p.y p.z

-- the derivative by u, then that by v
abbrev pub put_derivatives : List Float → Derivatives → List Float
put_derivatives t d = put_three (put_three t 0 d.u.x d.u.y d.u.z) 3 d.v.x d.v.y d.v.z

-- 1 and the point at (u, v), or 0 for fewer than 3 numbers out
unfoldable pub probe_point : Surface → Float → Float → List Float → Probed
probe_point s u v t = pick (ltb (length t) 3) (probed 0 t) (probed 1 (put_point t (eval_point s u v)))

-- 1 and the first derivatives at (u, v), or 0 for fewer than 6 numbers out
unfoldable pub probe_derivatives : Surface → Float → Float → List Float → Probed
probe_derivatives s u v t = pick (ltb (length t) 6) (probed 0 t) (probed 1 (put_derivatives t (eval_d1 s u v)))

-- by what is asked: 0 the point, 1 the derivatives; 0 for anything else, a kind above 4 or fewer than 14 numbers in
unfoldable pub probe_surface : ℕ → ℕ → List Float → Float → Float → List Float → Probed
probe_surface what kind s u v t =
    pick (ltb 4 kind) (probed 0 t)
    (pick (ltb (length s) 14) (probed 0 t)
    (pick (eqb what 0) (probe_point (asked_surface kind s) u v t)
    (pick (eqb what 1) (probe_derivatives (asked_surface kind s) u v t)
    (probed 0 t))))
