-- A step that reads the first 54 numbers of one list and writes to the first four of another is that of the two lists.
use Rattle.std.specs.Prelude.{Option, Some, None}
use mathlib.Core.Path.{◌≡◌, refl, ap, ◌∙◌}
use mathlib.Core.List.{List, ◌++◌}
use Prim.Native.Nat.{ℕ, ◌≤◌}
use native.Mathlib.Omega.{arith}
use lib.Ieee.{Float}
use lib.ListN.{length, take, drop, set, length-set}
use lib.Seq.{length-take-le}
use Rattle.std.proofs.lemmas.List.{set-append_left, take-append-drop}
use Rattle.geometry.specs.declared.vector.Vector3D.{Vector3D}
use Rattle.patch.specs.declared.patch.Parameters.{Parameters}
use Rattle.marching.specs.declared.leaving.Exit.{Exit}
use Rattle.meeting.specs.declared.newton.Met.{Met}
use Rattle.meeting.specs.declared.newton.Met.TheVariants as met
use Rattle.probe.specs.Probe.{Probed, probed}
use Rattle.probe.specs.Call.{call_from, put_three, put_parameters}
use Rattle.probe.specs.Steps.{written_direction, written_exit, written_met}
use Rattle.probe.specs.Steps.{probe_tangent, probe_predict, probe_leaving, probe_meet, probe_meet_in_plane, probe_land}
use Rattle.probe.proofs.Read.{call_taken, point_taken, vector_taken, parameters_taken, number_taken}

-- an answer whose output has more numbers behind it
abbrev beside : Probed → List Float → Probed
beside p b = probed p.word (p.output ++ b)

module _ (a b : List Float) (room : 4 ≤ length a) where
  three_beside : (x y z : Float) → put_three (a ++ b) 0 x y z ≡ put_three a 0 x y z ++ b
  unfolding put_three
  three_beside x y z =
      rw (set-append_left a b 0 x (omega arith))
      (rw (set-append_left (set a 0 x) b 1 y (simp length-set (omega arith)), set-append_left (set (set a 0 x) 1 y) b 2 z (simp length-set (omega arith))))

  parameters_beside : (x : Parameters) → put_parameters (a ++ b) x ≡ put_parameters a x ++ b
  unfolding put_parameters
  parameters_beside x =
      rw (set-append_left a b 0 x.u1 (omega arith))
      (rw (set-append_left (set a 0 x.u1) b 1 x.v1 (simp length-set (omega arith)), set-append_left (set (set a 0 x.u1) 1 x.v1) b 2 x.u2 (simp length-set (omega arith)))
      (rw (set-append_left (set (set (set a 0 x.u1) 1 x.v1) 2 x.u2) b 3 x.v2 (simp length-set (omega arith)))))

  direction_beside : (o : Option Vector3D) → beside (written_direction o a) b ≡ written_direction o (a ++ b)
  direction_beside (Some d) = rw (three_beside d.x d.y d.z)
  direction_beside None = refl

  exit_beside : (o : Option Exit) → beside (written_exit o a) b ≡ written_exit o (a ++ b)
  exit_beside (Some e) = rw (set-append_left a b 0 e.bound (omega arith))
  exit_beside None = refl

  met_beside : (m : Met) → beside (written_met m a) b ≡ written_met m (a ++ b)
  met_beside (met.At y) = rw (parameters_beside y)
  met_beside (met.Refused r) = refl

four_there : (t : List Float) → 4 ≤ length t → 4 ≤ length (take 4 t)
four_there t room = let e = length-take-le 4 t room in omega arith

module _ (s t : List Float) (room : 4 ≤ length t) {w : ℕ} {out : List Float} where
  -- the numbers behind the four follow on both sides
  behind : {p : Probed} → probed w out ≡ p → probed w (out ++ drop 4 t) ≡ beside p (drop 4 t)
  behind e = ap (λ (p : Probed). beside p (drop 4 t)) e

  pub tangent_whole : probed w out ≡ probe_tangent (call_from (take 54 s)) (take 4 t) → probed w (out ++ drop 4 t) ≡ probe_tangent (call_from s) t
  unfolding probe_tangent
  tangent_whole e = behind e ∙ direction_beside (take 4 t) (drop 4 t) (four_there t room) _ ∙ rw (call_taken s, take-append-drop 4 t)

  pub predict_whole : probed w out ≡ probe_predict (call_from (take 54 s)) (take 54 s) (take 4 t) → probed w (out ++ drop 4 t) ≡ probe_predict (call_from s) s t
  unfolding probe_predict
  predict_whole e =
      behind e ∙ rw (← parameters_beside (take 4 t) (drop 4 t) (four_there t room) _, call_taken s, vector_taken s 48 (omega arith), take-append-drop 4 t)

  pub leaving_whole : probed w out ≡ probe_leaving (call_from (take 54 s)) (take 54 s) (take 4 t) → probed w (out ++ drop 4 t) ≡ probe_leaving (call_from s) s t
  unfolding probe_leaving
  leaving_whole e =
      behind e ∙ exit_beside (take 4 t) (drop 4 t) (four_there t room) _ ∙ rw (call_taken s, parameters_taken s 48 (omega arith), take-append-drop 4 t)

  pub meet_whole : probed w out ≡ probe_meet (call_from (take 54 s)) (take 4 t) → probed w (out ++ drop 4 t) ≡ probe_meet (call_from s) t
  unfolding probe_meet
  meet_whole e = behind e ∙ met_beside (take 4 t) (drop 4 t) (four_there t room) _ ∙ rw (call_taken s, take-append-drop 4 t)

  pub meet_in_plane_whole : probed w out ≡ probe_meet_in_plane (call_from (take 54 s)) (take 54 s) (take 4 t)
      → probed w (out ++ drop 4 t) ≡ probe_meet_in_plane (call_from s) s t
  unfolding probe_meet_in_plane
  meet_in_plane_whole e =
      behind e ∙ met_beside (take 4 t) (drop 4 t) (four_there t room) _
      ∙ rw (call_taken s, point_taken s 48 (omega arith), vector_taken s 51 (omega arith), take-append-drop 4 t)

  pub land_whole : (pin : ℕ) → probed w out ≡ probe_land (call_from (take 54 s)) (take 54 s) pin (take 4 t)
      → probed w (out ++ drop 4 t) ≡ probe_land (call_from s) s pin t
  unfolding probe_land
  land_whole pin e =
      behind e ∙ met_beside (take 4 t) (drop 4 t) (four_there t room) _ ∙ rw (call_taken s, number_taken s 48 (omega arith), take-append-drop 4 t)
