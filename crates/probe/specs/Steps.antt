-- What the probes of the walk's steps answer and write. Definitions only.
use Rattle.geometry.specs.declared.vector.Vector3D.{Vector3D}
use Rattle.std.specs.Prelude.{List, ℕ, ◌+◌, ◌*◌, eqb, get_or, set, Float, Some, None, Option}
use Rattle.std.specs.Float.{nan}
use Rattle.loops.specs.Loop.{pick}
use Rattle.probe.specs.Probe.{Probed, probed, or_short}
use Rattle.probe.specs.Call.{point_from, vector_from, parameters_from, call_from, put_three, put_parameters}
use Rattle.probe.specs.declared.call.Call.{Call}
use Rattle.refusal.specs.Refusal.{number_of, round_of, column_of}
use Rattle.marching.specs.declared.leaving.Exit.{Exit}
use Rattle.meeting.specs.declared.newton.Met.{Met}
use Rattle.meeting.specs.declared.newton.Met.TheVariants as met
use Rattle.tangent.specs.Tangent.{tangent_of}
use Rattle.marching.specs.Predict.{predict_of}
use Rattle.marching.specs.Leaving.{leaving_of}
use Rattle.meeting.specs.Newton.{meet_of, meet_in_plane_of, land_of}

-- 1 and the direction, or 0
abbrev pub written_direction : Option Vector3D → List Float → Probed
written_direction (Some d) t = probed 1 (put_three t 0 d.x d.y d.z)
written_direction None t = probed 0 t

-- the index and the bound, or 4
abbrev pub written_exit : Option Exit → List Float → Probed
written_exit (Some e) t = probed e.index (set t 0 e.bound)
written_exit None t = probed 4 t

-- 1 and the meeting, or 2^8 times the refusal's number, 2^16 times its round and 2^24 times its column
abbrev pub written_met : Met → List Float → Probed
written_met (met.At y) t = probed 1 (put_parameters t y)
written_met (met.Refused r) t = probed (number_of r * 256 + round_of r * 65536 + column_of r * 16777216) t

-- `tangent`
unfoldable pub probe_tangent : Call → List Float → Probed
probe_tangent c t = written_direction (tangent_of c.a c.b c.x c.tol) t

-- `predict`, by the displacement from 48 on
unfoldable pub probe_predict : Call → List Float → List Float → Probed
probe_predict c s t = probed 1 (put_parameters t (predict_of c.a c.b c.x (vector_from s 48)))

-- `leaving`, to the parameters from 48 on
unfoldable pub probe_leaving : Call → List Float → List Float → Probed
probe_leaving c s t = written_exit (leaving_of c.a c.b c.x (parameters_from s 48)) t

-- `meet` without a plane
unfoldable pub probe_meet : Call → List Float → Probed
probe_meet c t = written_met (meet_of c.a c.b c.x c.tol) t

-- `meet` with the plane through the point from 48 on, its normal from 51 on
unfoldable pub probe_meet_in_plane : Call → List Float → List Float → Probed
probe_meet_in_plane c s t = written_met (meet_in_plane_of c.a c.b c.x (point_from s 48) (vector_from s 51) c.tol) t

-- `land`, the pinned parameter at number 48
unfoldable pub probe_land : Call → List Float → ℕ → List Float → Probed
probe_land c s pin t = written_met (land_of c.a c.b c.x pin (get_or s 48 nan) c.tol) t

-- by the step's number; 9 for any other, fewer than 54 numbers in or 4 out
unfoldable pub probe_step : ℕ → ℕ → List Float → List Float → Probed
probe_step what pin s t =
    or_short 54 4 s t
    (pick (eqb what 0) (probe_tangent (call_from s) t)
    (pick (eqb what 1) (probe_predict (call_from s) s t)
    (pick (eqb what 2) (probe_leaving (call_from s) s t)
    (pick (eqb what 3) (probe_meet (call_from s) t)
    (pick (eqb what 4) (probe_meet_in_plane (call_from s) s t)
    (pick (eqb what 5) (probe_land (call_from s) s pin t)
    (probed 9 t)))))))
