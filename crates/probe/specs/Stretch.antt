-- What the probe of the stretch that crosses a box answers and writes. Definitions only.
use Rattle.std.specs.Prelude.{List, ℕ, ltb, length, Float}
use Rattle.loops.specs.Loop.{pick}
use Rattle.loops.specs.Over.{written}
use Rattle.number.specs.Operators.{bits}
use Rattle.geometry.specs.declared.tolerance.Tolerance.{Tolerance}
use Rattle.boxes.specs.declared.boxtree.Aabb.{Aabb}
use Rattle.boxes.specs.Explain.{stretch_of}
use Rattle.probe.specs.Probe.{Probed, probed}
use Rattle.probe.specs.Call.{point_from}

-- confusion and angular; the parametric tolerance isn't read
abbrev pub asked_tolerance : Float → Float → Tolerance
asked_tolerance confusion angular = record { confusion = confusion; angular = angular; parametric = bits 0 }

-- the corners: low x, y, z, then high
unfoldable pub asked_box : List Float → Aabb
asked_box corners = record { low = point_from corners 0; high = point_from corners 3 }

-- how many numbers the stretch has, and the stretch at the front, or 0 for fewer numbers out
unfoldable pub put_stretch : List Float → List Float → Probed
put_stretch stretch t = pick (ltb (length t) (length stretch)) (probed 0 t) (probed (length stretch) (written stretch t))

-- `stretch` of the trace and the box, or 0 for fewer than 6 corners
unfoldable pub probe_stretch : Float → Float → List Float → ℕ → List Float → List Float → Probed
probe_stretch confusion angular l count corners t =
    pick (ltb (length corners) 6) (probed 0 t) (put_stretch (stretch_of (asked_tolerance confusion angular) l count (asked_box corners)) t)
