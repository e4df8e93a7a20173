-- `meet` and `land` of marching.rs. Definitions only.
use Rattle.std.specs.Prelude.{◌≡◌, Bool, ◌&&◌, ◌⊎◌, ℕ, ◌≤◌, ◌<◌, Float, Option, Some, None, Ok, Err}
use Rattle.std.specs.declared.ops.ControlFlow.{ControlFlow}
use Rattle.std.specs.declared.ops.ControlFlow.TheVariants.{Continue, Break}
use Rattle.loops.specs.Loop.{pick, Flow, on, out, searched}
use Rattle.number.specs.Operators.{◌⊗◌, ◌<?◌, ◌≤?◌}
use Rattle.number.specs.Helpers.{one, half, tenth, abs_of}
use Rattle.geometry.specs.declared.vector.Vector3D.{Vector3D}
use Rattle.geometry.specs.declared.point.Point3D.{Point3D}
use Rattle.geometry.specs.declared.tolerance.Tolerance.{Tolerance}
use Rattle.geometry.specs.Vector.{magnitude_of}
use Rattle.patch.specs.declared.patch.Patch.{Patch}
use Rattle.patch.specs.declared.patch.Parameters.{Parameters}
use Rattle.patch.specs.Patch.{inside_of, within_bounds}
use Rattle.refusal.specs.declared.Refusal.{Refusal}
use Rattle.refusal.specs.declared.Refusal.TheVariants as refusal
use Rattle.refusal.specs.Refusal.{round_of, column_of}
use Rattle.meeting.specs.declared.correction.Target.{Target}
use Rattle.meeting.specs.declared.correction.Target.TheVariants.{Free, Plane, Pin}
use Rattle.meeting.specs.declared.correction.Residual.{Residual}
use Rattle.meeting.specs.declared.newton.Met.{Met}
use Rattle.meeting.specs.declared.newton.Met.TheVariants.{At, Refused}
use Rattle.meeting.specs.Correction.{Correction, with_parameter, residual_of, correction_of, shifted_of}

-- gap and plane offset at most a bound; "Both tests also ask that every parameter lie inside its window where that has no turn mark"
unfoldable pub near_of : Patch → Patch → Residual → Float → Bool
near_of a b s bound = magnitude_of s.f ≤? bound && (abs_of s.r ≤? bound && inside_of a b s.x)

-- ---- "up to 12 trials with halved scale, the first with strictly smaller merit taken"

-- "the first with strictly smaller merit taken", else half the scale
abbrev pub trial_at : Residual → Residual → Float → Flow Float (Option Residual)
trial_at s t scale = pick (t.merit <? s.merit) (out (Some t)) (on (scale ⊗ half))

-- a trial: the correction scaled, clamped to the windows, its residual
abbrev pub trial_body : Patch → Patch → Target → Residual → Parameters → ℕ → Float → Flow Float (Option Residual)
trial_body a b target s d i scale = trial_at s (residual_of a b target (within_bounds a b (shifted_of target s.x d scale))) scale

-- "up to 12 trials"
abbrev pub most_trials : ℕ
most_trials = 12

-- the trials are spent, none was better
abbrev pub no_trial : Float → Option Residual
no_trial scale = None

-- the trials from the i-th on
abbrev pub trials_from : Patch → Patch → Target → Residual → Parameters → ℕ → Float → Option Residual
trials_from a b target s d i scale = searched (trial_body a b target s d) no_trial i most_trials (on scale)

-- all trials, from the scale 1.0
unfoldable pub trials_of : Patch → Patch → Target → Residual → Parameters → Option Residual
trials_of a b target s d = trials_from a b target s d 0 one

-- ---- one round

-- "The last test is against confusion itself."; 02, A2: "9 in every other failed meeting", in the round in which the rounds end
unfoldable pub last_test : Patch → Patch → Float → ℕ → Residual → Met
last_test a b confusion i s = pick (near_of a b s confusion) (At s.x) (Refused (refusal.NoMeeting i))

-- "Without one the rounds end."
abbrev pub after_trials : Patch → Patch → Float → ℕ → Residual → Option Residual → ControlFlow Met Residual
after_trials a b confusion i s (Some t) = Continue t
after_trials a b confusion i s None = Break (last_test a b confusion i s)

-- "A failed solve refuses, even where that last test would pass."; 02, A2: "with 21, in the place of 9, when a solve gave up";
-- A3: the column at which it did is handed on
abbrev pub after_solve : Patch → Patch → Target → Float → ℕ → Residual → Correction → ControlFlow Met Residual
after_solve a b target confusion i s (Ok d) = after_trials a b confusion i s (trials_of a b target s d)
after_solve a b target confusion i s (Err e) = Break (Refused (refusal.Singular i e.column))

-- "accepted at once when gap and plane offset are at most a tenth of confusion; else a solve, and up to 12 trials"
unfoldable pub newton_round : Patch → Patch → Target → Float → ℕ → Residual → ControlFlow Met Residual
newton_round a b target confusion i s =
    pick (near_of a b s (tenth ⊗ confusion)) (Break (At s.x)) (after_solve a b target confusion i s (correction_of a b target s))

-- ---- the rounds

-- "at most 32 rounds"
abbrev pub most_rounds : ℕ
most_rounds = 32

-- what a round says to the loop
abbrev pub going_on : ControlFlow Met Residual → Flow Residual Met
going_on (Continue t) = on t
going_on (Break m) = out m

-- the round of index i, "from 0"
abbrev pub round_body : Patch → Patch → Target → Float → ℕ → Residual → Flow Residual Met
round_body a b target confusion i s = going_on (newton_round a b target confusion i s)

-- the rounds from the i-th on, then the last test; "A call that spends all rounds names 32"
abbrev pub rounds_from : Patch → Patch → Target → Float → ℕ → Residual → Met
rounds_from a b target confusion i s = searched (round_body a b target confusion) (last_test a b confusion most_rounds) i most_rounds (on s)

-- all rounds, from the residual at x
unfoldable pub newton_of : Patch → Patch → Target → Parameters → Float → Met
newton_of a b target x confusion = rounds_from a b target confusion 0 (residual_of a b target x)

-- ---- "`meet`: the guess is clamped to windows without turn mark", without and with a plane

-- `meet` without a plane
unfoldable pub meet_of : Patch → Patch → Parameters → Tolerance → Met
meet_of a b x tol = newton_of a b Free (within_bounds a b x) tol.confusion

-- `meet` with a plane
unfoldable pub meet_in_plane_of : Patch → Patch → Parameters → Point3D → Vector3D → Tolerance → Met
meet_in_plane_of a b x origin normal tol = newton_of a b (Plane origin normal) (within_bounds a b x) tol.confusion

-- "`land` does the same without plane, one parameter pinned": from the clamped guess with that parameter at its bound
unfoldable pub land_of : Patch → Patch → Parameters → ℕ → Float → Tolerance → Met
land_of a b x pin value tol = newton_of a b (Pin pin) (with_parameter (within_bounds a b x) pin value) tol.confusion

-- ---- 02, A2 and A3: why a meeting fails

-- 9, whose round is at most 32, or 21 of a solve of n unknowns, whose round is at most 31, for a solve belongs to a round, and whose column is below n
abbrev pub Unmet : ℕ → Refusal → Type 0
Unmet n q =
    ((q ≡ refusal.NoMeeting (round_of q)) × (round_of q ≤ most_rounds))
    ⊎ ((q ≡ refusal.Singular (round_of q) (column_of q)) × (round_of q < most_rounds) × (column_of q < n))

-- the contract of `meet` and `land`, which solve for three unknowns, and of `meet_in_plane`, for four; the answer is the one defined
pub record MetPromise (n : ℕ) (defined r : Met) : Type 0 where
  pub answer : r ≡ defined
  pub unmet : (q : Refusal) → r ≡ Refused q → Unmet n q
