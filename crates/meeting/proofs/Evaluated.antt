-- The definitions compute: two equal planes meet at once; the solve for planes one apart gives up in round 0; for an upright plane out of reach round 0
-- goes to the window's end, and round 1 finds nothing better.
use mathlib.Core.Path.{◌≡◌, refl}
use mathlib.Core.Bool.{false}
use lib.Ieee as Ieee
use lib.Ieee.{Float, nan}
use Rattle.number.specs.Operators.{bits}
use Rattle.sqrt.specs.Sqrt.{sqrt_of}
use Rattle.geometry.specs.Tolerance.{default_tolerance}
use Rattle.geometry.specs.Vector.{vector_of, zero_vector, dot_of, cross_of, square_magnitude_of, magnitude_of, neg_of, scale_of}
use Rattle.geometry.specs.Point.{point_of, difference_of, add_vector_of}
use Rattle.geometry.specs.Frame.{point_at_of}
use Rattle.analytic.specs.declared.surface.Surface.TheVariants.{Plane}
use Rattle.analytic.specs.Surface.{eval_point, eval_d1}
use Rattle.patch.specs.declared.patch.Patch.{Patch}
use Rattle.patch.specs.declared.patch.Window.{Window}
use Rattle.patch.specs.declared.patch.Parameters.{Parameters}
use Rattle.patch.specs.Patch.{inside_of, window_holds, bounded_of, within_bounds}
use Rattle.refusal.specs.declared.Refusal.TheVariants as refusal
use Rattle.solve.proofs.Computing as solve
use Rattle.meeting.specs.declared.newton.Met.TheVariants.{At, Refused}
use Rattle.meeting.specs.Correction.{offset_of, residual_of, columns_of, dot4_of, normal_matrix, free_correction, correction_of, shifted_of}
use Rattle.meeting.specs.Newton.{near_of, trials_of, last_test, newton_round, newton_of, meet_of}

-- opens what an evaluation of a meeting of planes needs
unfoldable pub computing : Unit {0}
unfolding meet_of newton_of newton_round last_test trials_of near_of shifted_of correction_of free_correction normal_matrix dot4_of columns_of residual_of offset_of within_bounds bounded_of window_holds inside_of eval_point eval_d1 point_at_of difference_of add_vector_of point_of scale_of neg_of magnitude_of square_magnitude_of cross_of dot_of vector_of zero_vector default_tolerance sqrt_of solve.computing Ieee.neg
computing = tt

abbrev window : Window
window = record { low = bits 0xbff0_0000_0000_0000; high = bits 0x3ff0_0000_0000_0000; turn = false }

-- the unit-frame plane moved up by z, windows -1 to 1, no marks
abbrev pub plane_at : Float → Patch
plane_at z = record {
  surface = Plane (record {
    origin = point_of (bits 0) (bits 0) z;
    x = vector_of (bits 0x3ff0_0000_0000_0000) (bits 0) (bits 0);
    y = vector_of (bits 0) (bits 0x3ff0_0000_0000_0000) (bits 0);
    z = vector_of (bits 0) (bits 0) (bits 0x3ff0_0000_0000_0000);
  });
  u = window;
  v = window;
}

-- the plane one higher with a direction that is no number
abbrev pub unnumbered : Patch
unnumbered = record {
  surface = Plane (record {
    origin = point_of (bits 0) (bits 0) (bits 0x3ff0_0000_0000_0000);
    x = vector_of nan (bits 0) (bits 0);
    y = vector_of (bits 0) (bits 0x3ff0_0000_0000_0000) (bits 0);
    z = vector_of (bits 0) (bits 0) (bits 0x3ff0_0000_0000_0000);
  });
  u = window;
  v = window;
}

abbrev pub origin : Parameters
origin = record { u1 = bits 0; v1 = bits 0; u2 = bits 0; v2 = bits 0 }

pub equal_planes_meet : meet_of (plane_at (bits 0)) (plane_at (bits 0)) origin default_tolerance ≡ At origin
unfolding computing
equal_planes_meet = refl

-- column 2: they are apart in z
pub planes_apart_do_not : meet_of (plane_at (bits 0)) (plane_at (bits 0x3ff0_0000_0000_0000)) origin default_tolerance ≡ Refused (refusal.Singular 0 2)
unfolding computing
planes_apart_do_not = refl

-- the upright plane of the points (x, u, v)
abbrev pub upright_at : Float → Patch
upright_at x = record {
  surface = Plane (record {
    origin = point_of x (bits 0) (bits 0);
    x = vector_of (bits 0) (bits 0x3ff0_0000_0000_0000) (bits 0);
    y = vector_of (bits 0) (bits 0) (bits 0x3ff0_0000_0000_0000);
    z = vector_of (bits 0x3ff0_0000_0000_0000) (bits 0) (bits 0);
  });
  u = window;
  v = window;
}

-- column 0: they are apart in x
pub uprights_apart_do_not : meet_of (upright_at (bits 0)) (upright_at (bits 0x3ff0_0000_0000_0000)) origin default_tolerance ≡ Refused (refusal.Singular 0 0)
unfolding computing
uprights_apart_do_not = refl

pub out_of_reach : meet_of (plane_at (bits 0)) (upright_at (bits 0x4008_0000_0000_0000)) origin default_tolerance ≡ Refused (refusal.NoMeeting 1)
unfolding computing
out_of_reach = refl

-- a pivot that is no number is "not at most" the threshold: the solve goes on, and no trial is better
pub unnumbered_goes_on : meet_of (plane_at (bits 0)) unnumbered origin default_tolerance ≡ Refused (refusal.NoMeeting 0)
unfolding computing
unnumbered_goes_on = refl
