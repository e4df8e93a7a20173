-- A meeting fails with 9 in a round of at most 32, or with 21 in one of at most 31 and at a column of its matrix.
use Rattle.std.proofs.Common.{Option, Some, None, Break}
use mathlib.Core.Path.{◌≡◌, refl, ap, subst}
use mathlib.Core.Bool.{Bool, true, false}
use mathlib.Core.Logic.{inl, inr, ⊎_elim}
use Prim.Native.Nat.{ℕ, ◌≤◌, ◌<◌}
use native.Mathlib.Omega.{arith}
use lib.Ieee.{Float}
use Rattle.std.specs.Prelude.{List, Ok, Err}
use Rattle.loops.specs.Loop.{pick, Flow}
use Rattle.loops.proofs.Loop.{Kept, searched_keeps_at}
use Rattle.number.specs.Operators.{◌⊗◌}
use Rattle.number.specs.Helpers.{tenth}
use Rattle.refusal.specs.declared.Refusal.{Refusal}
use Rattle.refusal.specs.declared.Refusal.TheVariants as refusal
use Rattle.refusal.specs.Refusal.{number_of, round_of, column_of}
use Rattle.geometry.specs.declared.tolerance.Tolerance.{Tolerance}
use Rattle.geometry.specs.declared.vector.Vector3D.{Vector3D}
use Rattle.patch.specs.declared.patch.Patch.{Patch}
use Rattle.patch.specs.declared.patch.Parameters.{Parameters}
use Rattle.solve.specs.Cramer.{solver_tol}
use Rattle.solve.proofs.Columns.{solve_each}
use Rattle.meeting.specs.declared.correction.Target.{Target}
use Rattle.meeting.specs.declared.correction.Target.TheVariants.{Free, Plane, Pin}
use Rattle.meeting.specs.declared.correction.Residual.{Residual}
use Rattle.meeting.specs.declared.newton.Met.{Met}
use Rattle.meeting.specs.declared.newton.Met.TheVariants.{At, Refused}
use Rattle.meeting.specs.Correction.{Correction, residual_of, columns_of, normal_matrix, minus, minimum_norm, free_correction, by_four, plane_correction, by_three, pin_correction, correction_of}
use Rattle.meeting.specs.Newton.{near_of, trials_of, last_test, after_trials, after_solve, newton_round, most_rounds, going_on, round_body, newton_of}
use Rattle.meeting.specs.Newton.{meet_of, Unmet, MetPromise}

-- nobody has to say why where there is a meeting
Reason : ℕ → Met → Type 0
Reason n (At x) = Unit {0}
Reason n (Refused q) = Unmet n q

-- how many unknowns are solved for
abbrev pub unknowns : Target → ℕ
unknowns Free = 3
unknowns (Plane origin normal) = 4
unknowns (Pin k) = 3

-- the column at which a correction's solve gives up is below n
Within : ℕ → Correction → Type 0
Within n (Ok d) = Unit {0}
Within n (Err e) = e.column < n

free_within : (c : List Vector3D) (f : Vector3D) → Within 3 (free_correction c f)
unfolding free_correction Within
free_within c f = solve_each 3 (normal_matrix c) (minus f) solver_tol (λ r. Within 3 (minimum_norm c r)) (λ x. tt) (λ col h. h)

plane_within : (c : List Vector3D) (normal f : Vector3D) (r : Float) → Within 4 (plane_correction c normal f r)
unfolding plane_correction Within
plane_within c normal f r = solve_each 4 _ _ solver_tol (λ r. Within 4 (by_four r)) (λ x. tt) (λ col h. h)

pin_within : (c : List Vector3D) (pin : ℕ) (f : Vector3D) → Within 3 (pin_correction c pin f)
unfolding pin_correction Within
pin_within c pin f = solve_each 3 _ (minus f) solver_tol (λ r. Within 3 (by_three pin r)) (λ x. tt) (λ col h. h)

correction_within : (a b : Patch) (target : Target) (s : Residual) → Within (unknowns target) (correction_of a b target s)
unfolding correction_of
correction_within a b Free s = free_within (columns_of a b s.x) s.f
correction_within a b (Plane origin normal) s = plane_within (columns_of a b s.x) normal s.f s.r
correction_within a b (Pin k) s = pin_within (columns_of a b s.x) k s.f

module _ (a b : Patch) (target : Target) (confusion : Float) where
  last_reason : (i : ℕ) (s : Residual) → i ≤ most_rounds → Reason (unknowns target) (last_test a b confusion i s)
  unfolding last_test Reason
  last_reason i s h = go (near_of a b s confusion)
    where
      go : (near : Bool) → Reason (unknowns target) (pick near (At s.x) (Refused (refusal.NoMeeting i)))
      go true = tt
      go false = inl (refl, h)

  abbrev Told : Flow Residual Met → Type 0
  Told = Kept (λ (s : Residual). Unit {0}) (Reason (unknowns target))

  trials_reason : (i : ℕ) (s : Residual) (r : Option Residual) → i < most_rounds → Told (going_on (after_trials a b confusion i s r))
  trials_reason i s (Some t) h = tt
  trials_reason i s None h = last_reason i s (omega (arith, h))

  solve_reason : (i : ℕ) (s : Residual) (r : Correction) → i < most_rounds → Within (unknowns target) r → Told (going_on (after_solve a b target confusion i s r))
  unfolding Reason Within
  solve_reason i s (Ok d) h w = trials_reason i s (trials_of a b target s d) h
  solve_reason i s (Err e) h w = inr (refl, h, w)

  round_reason : (i : ℕ) (s : Residual) → i < most_rounds → Told (round_body a b target confusion i s)
  unfolding newton_round Reason
  round_reason i s h = go (near_of a b s (tenth ⊗ confusion))
    where
      go : (near : Bool) → Told (going_on (pick near (Break (At s.x)) (after_solve a b target confusion i s (correction_of a b target s))))
      go true = tt
      go false = solve_reason i s (correction_of a b target s) h (correction_within a b target s)

  newton_reason : (x : Parameters) → Reason (unknowns target) (newton_of a b target x confusion)
  unfolding newton_of
  newton_reason x =
      searched_keeps_at (round_body a b target confusion) (last_test a b confusion most_rounds) (λ i s. Unit {0}) (Reason (unknowns target)) 0 most_rounds (λ i s h p. round_reason i s h)
      (λ s p. last_reason most_rounds s (omega arith)) (omega arith) (residual_of a b target x) tt

  -- so what it answers is promised
  pub newton_promised : (x : Parameters) {r : Met} → r ≡ newton_of a b target x confusion → MetPromise (unknowns target) (newton_of a b target x confusion) r
  unfolding Reason
  newton_promised x e = record { answer = e; unmet = λ q f. subst (Reason (unknowns target)) f (rw e (newton_reason x)) }

pub meet_unmet : (a b : Patch) (x : Parameters) (tol : Tolerance) (q : Refusal) → meet_of a b x tol ≡ Refused q → Unmet 3 q
unfolding meet_of
meet_unmet a b x tol q e = (newton_promised a b _ _ _ refl).unmet q e

-- either way the round is at most 32
pub unmet_round : {n : ℕ} (q : Refusal) → Unmet n q → round_of q ≤ most_rounds
unmet_round q u = ⊎_elim (λ h. h.1) (λ h. omega (arith, h.1)) u

-- and the column at most n
pub unmet_column : {n : ℕ} (q : Refusal) → Unmet n q → column_of q ≤ n
unmet_column q u = ⊎_elim (λ h. rw h.0 (omega arith)) (λ h. omega (arith, h.2)) u

-- a solve of more unknowns has all columns of one of fewer
pub unmet_more : {n m : ℕ} (q : Refusal) → n ≤ m → Unmet n q → Unmet m q
unmet_more q l u = ⊎_elim (λ h. inl h) (λ h. inr (h.0, h.1, omega (arith, l, h.2))) u

-- beside 21 the round is below 32, and the column below n
pub singular_bounds : {n : ℕ} (i col : ℕ) → Unmet n (refusal.Singular i col) → (i < most_rounds) × (col < n)
singular_bounds i col u = ⊎_elim (λ h. absurd (let z = ap number_of h.0 in let y : ⊥ = omega (arith, z) in y)) (λ h. (h.1, h.2)) u
