-- The definitions compute: one trace at every limit passes, and what a small change of it is refused for.
use Rattle.std.specs.Prelude.{Ok, Err}
use mathlib.Core.Path.{◌≡◌, refl}
use mathlib.Core.Bool.{Bool, true, false, ◌&&◌}
use mathlib.Core.List.{List, [], ◌∷◌}
use Prim.Native.Nat.{ℕ, zero, suc, ◌^◌}
use lib.Dec.{T}
use lib.Ieee as Ieee
use lib.Ieee.{Float, nan, binary64, fits}
use lib.Ieee.Fits.{and_l, and_r}
use Rattle.loops.specs.Loop.{exits}
use Rattle.number.specs.Operators.{bits}
use Rattle.number.specs.Helpers.{one, abs_of, number_fit, same_bits}
use Rattle.sqrt.specs.Sqrt.{sqrt_of}
use Rattle.groups.specs.Groups.{count_fits, holds_of}
use Rattle.groups.specs.Row.{row_of}
use Rattle.refusal.specs.declared.Refusal.TheVariants as refusal
use Rattle.geometry.specs.declared.tolerance.Tolerance.{Tolerance}
use Rattle.geometry.specs.Tolerance.{tolerance_fit}
use Rattle.geometry.specs.Vector.{vector_of, scale_of}
use Rattle.geometry.specs.Point.{point_of, distance_of, add_vector_of, point_fit}
use Rattle.geometry.specs.Frame.{point_at_of}
use Rattle.analytic.specs.declared.surface.Surface.TheVariants.{Plane}
use Rattle.analytic.specs.Surface.{eval_point}
use Rattle.patch.specs.declared.patch.Patch.{Patch}
use Rattle.patch.specs.declared.patch.Window.{Window}
use Rattle.patch.specs.Patch.{vector_fit, frame_fit, numbers_fit, sizes_fit, window_fit, mark_fit, u_is_angle, v_is_angle, fitness_of, window_holds, inside_of}
use Rattle.patch.specs.Pair.{pair_fitness}
use Rattle.refusal.specs.Verdict.{Verdict}
use Rattle.certificate.specs.Passes.{Passes}
use Rattle.certificate.specs.Check.{same_numbers, finite_point, own_of, chord_fits, point_verdict, points_verdict, closing_so, claim_so, check_of}
use Rattle.number.proofs.Binary64.{Binary64}
use Rattle.certificate.proofs.Passed.{checked_passes}

-- opens what a check of planes needs
unfoldable pub computing : Unit {0}
unfolding check_of claim_so closing_so same_numbers points_verdict chord_fits point_verdict own_of finite_point same_bits abs_of holds_of count_fits row_of exits tolerance_fit pair_fitness fitness_of numbers_fit sizes_fit window_fit mark_fit u_is_angle v_is_angle frame_fit vector_fit point_fit number_fit inside_of window_holds eval_point point_at_of add_vector_of scale_of point_of vector_of distance_of sqrt_of Ieee.is_nan Ieee.to_bits Ieee.of_bits Ieee.add Ieee.sub Ieee.mul Ieee.div Ieee.lt Ieee.le Ieee.eq
computing = tt

-- ---- two planes that meet in the x axis, B raised by h; windows -1 to 1, no marks; confusion 2^-20

abbrev window : Window
window = record { low = bits 0xbff0_0000_0000_0000; high = bits 0x3ff0_0000_0000_0000; turn = false }

abbrev confusion : Float
confusion = bits 0x3eb0_0000_0000_0000

abbrev plane_a : Patch
plane_a = record {
  surface = Plane (record { origin = point_of (bits 0) (bits 0) (bits 0); x = vector_of one (bits 0) (bits 0); y = vector_of (bits 0) one (bits 0); z = vector_of (bits 0) (bits 0) one });
  u = window;
  v = window;
}

abbrev plane_b : Float → Patch
plane_b h = record {
  surface = Plane (record { origin = point_of (bits 0) (bits 0) h; x = vector_of one (bits 0) (bits 0); y = vector_of (bits 0) (bits 0) one; z = vector_of (bits 0) (bits 0xbff0_0000_0000_0000) (bits 0) });
  u = window;
  v = window;
}

abbrev tol : Tolerance
tol = record { confusion = confusion; angular = bits 0x3d71_9799_812d_ea11; parametric = bits 0 }

-- ---- the points at x = 0, 0.2, 0.4 and 0 again, with the second's x and y, u on A and u on B as given

abbrev at : Float → List Float → List Float
at x l = x ∷ bits 0 ∷ bits 0 ∷ x ∷ bits 0 ∷ x ∷ bits 0 ∷ l

abbrev fifth : Float
fifth = bits 0x3fc9_9999_9999_999a

abbrev line : Float → Float → Float → Float → List Float
line x y u1 u2 = at (bits 0) (x ∷ y ∷ bits 0 ∷ u1 ∷ bits 0 ∷ u2 ∷ bits 0 ∷ at (bits 0x3fd9_9999_9999_999a) (at (bits 0) []))

abbrev checked : Float → List Float → ℕ → ℕ → ℕ → Verdict
checked h l count start closing = check_of plane_a (plane_b h) tol l count start closing

-- gaps of confusion itself, chords of 0.2 itself, and a closing chord of 0.4 pass
pub at_the_limits : checked confusion (line fifth (bits 0) fifth fifth) 4 0 1 ≡ Ok tt
unfolding computing
at_the_limits = refl

-- called open, its last chord is tested
pub open_chord : checked confusion (line fifth (bits 0) fifth fifth) 4 0 0 ≡ Err (refusal.Chord 3)
unfolding computing
open_chord = refl

-- the next number above confusion is too wide a gap
pub wide_gap : checked (bits 0x3eb0_0000_0000_0001) (line fifth (bits 0) fifth fifth) 4 0 1 ≡ Err (refusal.Gap 0)
unfolding computing
wide_gap = refl

-- a NaN is outside, and 14 comes before 13
pub nan_outside : checked confusion (line fifth (bits 0) fifth nan) 4 0 1 ≡ Err (refusal.OutsideWindow 1)
unfolding computing
nan_outside = refl

pub outside_first : checked confusion (line nan (bits 0) (bits 0x4000_0000_0000_0000) fifth) 4 0 1 ≡ Err (refusal.OutsideWindow 1)
unfolding computing
outside_first = refl

-- a zero of the other sign is not A's own
pub other_zero : checked confusion (line fifth (bits 0x8000_0000_0000_0000) fifth fifth) 4 0 1 ≡ Err (refusal.NotOwnPoint 1)
unfolding computing
other_zero = refl

-- 8 comes before 12, also where 7 times the count is no machine word; then 12
pub lent_first : checked confusion (line fifth (bits 0) fifth fifth) (2 ^ 63) (2 ^ 63) 3 ≡ Err refusal.Lent
unfolding computing
lent_first = refl

pub no_start_of_a_closing : checked confusion (line fifth (bits 0) fifth fifth) 4 1 1 ≡ Err refusal.Claim
unfolding computing
no_start_of_a_closing = refl

-- ---- so there is a trace for which `Passes` holds

all_fit : List Float → Bool
all_fit [] = true
all_fit (x ∷ l) = fits binary64 x && all_fit l

fit_each : (l : List Float) → T (all_fit l) → Binary64 l
unfolding all_fit fits
fit_each [] h k = tt
fit_each (x ∷ l) h zero = and_l (fits binary64 x) (all_fit l) h
fit_each (x ∷ l) h (suc k) = fit_each l (and_r (fits binary64 x) (all_fit l) h) k

line_fits : T (all_fit (line fifth (bits 0) fifth fifth))
unfolding all_fit fits computing
line_fits = tt

pub some_pass : Passes plane_a (plane_b confusion) tol (line fifth (bits 0) fifth fifth) 4 0 1
some_pass = checked_passes plane_a (plane_b confusion) tol (line fifth (bits 0) fifth fifth) 4 0 1 (fit_each _ line_fits) at_the_limits
