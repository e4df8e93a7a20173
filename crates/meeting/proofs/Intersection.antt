-- Whatever the surfaces and the guess, under a fit tolerance every meeting and every landing is an intersection.
use Rattle.std.proofs.Common.{Option, Some, None, Break}
use mathlib.Core.Path.{◌≡◌, refl, ap, ◌∙◌, subst}
use mathlib.Core.Bool.{Bool, true, false, ◌&&◌}
use Prim.Native.Nat.{ℕ}
use native.Mathlib.Nat.{lt_of_le_of_lt, lt_of_lt_of_le}
use lib.Dec.{T, eqb, lit<}
use Rattle.std.specs.Prelude.{Ok, Err}
use lib.Pow.{pow_pos}
use lib.Ieee.{Float, of_bits}
use lib.Ieee.Fits.{and_l, and_r}
use lib.Ieee.Positive.{positive, between}
use lib.Ieee.Scale.{finite}
use Rattle.loops.specs.Loop.{pick, Flow, on, out}
use Rattle.loops.proofs.Loop.{Kept, searched_keeps}
use Rattle.number.specs.Operators.{◌⊗◌, ◌<?◌, ◌≤?◌}
use Rattle.number.specs.Helpers.{one, half, tenth, abs_of}
use Rattle.number.proofs.Order.{le_self, le_numbers, le_through}
use Rattle.number.proofs.Scaling.{unsigned, tenth_le}
use Rattle.geometry.specs.declared.point.Point3D.{Point3D}
use Rattle.geometry.specs.declared.vector.Vector3D.{Vector3D}
use Rattle.geometry.specs.declared.tolerance.Tolerance.{Tolerance}
use Rattle.geometry.specs.Tolerance.{least_confusion, tolerance_fit}
use Rattle.geometry.specs.Vector.{magnitude_of}
use Rattle.geometry.specs.Point.{difference_of}
use Rattle.gap.specs.Gap.{PointFinite}
use Rattle.gap.proofs.Gap.{magnitude_is_gap, fit_tolerance, finite_between, least_under, under_one, gap_finite}
use Rattle.patch.specs.declared.patch.Patch.{Patch}
use Rattle.patch.specs.declared.patch.Parameters.{Parameters}
use Rattle.patch.specs.Patch.{inside_of, bounded_of, within_bounds}
use Rattle.refusal.specs.declared.Refusal.TheVariants as refusal
use Rattle.meeting.specs.declared.correction.Target.{Target}
use Rattle.meeting.specs.declared.correction.Target.TheVariants.{Free, Plane, Pin}
use Rattle.meeting.specs.declared.correction.Residual.{Residual}
use Rattle.meeting.specs.declared.newton.Met.{Met}
use Rattle.meeting.specs.declared.newton.Met.TheVariants.{At, Refused}
use Rattle.meeting.specs.Correction.{Correction, parameter_of, with_parameter, residual_of, correction_of, all_shifted, shifted_of}
use Rattle.patch.specs.Located.{point_a, point_b}
use Rattle.meeting.specs.Newton.{near_of, trial_body, most_trials, no_trial, trials_of, last_test, after_trials, after_solve, newton_round}
use Rattle.meeting.specs.Newton.{most_rounds, going_on, round_body, newton_of, meet_of, meet_in_plane_of, land_of}
use Rattle.meeting.specs.Intersection.{IsIntersection, window_of}

-- ---- a state of Newton's method holds the difference of the two points at its parameters, and what every move of them keeps

module _ (a b : Patch) (target : Target) (confusion : Float) (tight : T (tenth ⊗ confusion ≤? confusion)) (self : T (confusion ≤? confusion))
    (H : Parameters → Type 0) (moved : (x d : Parameters) (scale : Float) → H x → H (within_bounds a b (shifted_of target x d scale))) where
  Own : Residual → Type 0
  Own s = (s.f ≡ difference_of (point_a a s.x) (point_b b s.x)) × H s.x

  Holds : Met → Type 0
  Holds (At x) = IsIntersection a b confusion x × H x
  Holds (Refused r) = T true

  residual_own : (x : Parameters) → H x → Own (residual_of a b target x)
  unfolding Own residual_of
  residual_own x h = (refl, h)

  -- what passes either test is good
  near_good : (s : Residual) (bound : Float) → Own s → T (bound ≤? confusion) → T (near_of a b s bound) → IsIntersection a b confusion s.x × H s.x
  unfolding near_of Own
  near_good s bound o l n =
      let m = and_l (magnitude_of s.f ≤? bound) (abs_of s.r ≤? bound && inside_of a b s.x) n in
      let i = and_r (abs_of s.r ≤? bound) (inside_of a b s.x) (and_r (magnitude_of s.f ≤? bound) (abs_of s.r ≤? bound && inside_of a b s.x) n) in (
        record {
          inside = i;
          gap = subst (λ (g : Float). T (g ≤? confusion)) (ap magnitude_of o.0 ∙ magnitude_is_gap (point_a a s.x) (point_b b s.x)) (le_through (magnitude_of s.f) bound confusion m l);
        },
        o.1,
      )

  -- ---- a trial that is taken, a round, and all rounds keep that

  TrialOwn : Option Residual → Type 0
  unfolding Own
  TrialOwn (Some t) = Own t
  TrialOwn None = T true

  trials_own : (s : Residual) (d : Parameters) → Own s → TrialOwn (trials_of a b target s d)
  unfolding trials_of TrialOwn
  trials_own s d o = searched_keeps (trial_body a b target s d) no_trial (λ scale. T true) TrialOwn body (λ scale h. tt) 0 most_trials _ tt
    where
      body : (i : ℕ) (scale : Float) → T true → Kept (λ scale. T true) TrialOwn (trial_body a b target s d i scale)
      body i scale h =
          let y = within_bounds a b (shifted_of target s.x d scale) in
          go ((residual_of a b target y).merit <? s.merit) (residual_of a b target y) (residual_own y (moved s.x d scale o.1))
        where
          go : (better : Bool) (t : Residual) → Own t → Kept (λ scale. T true) TrialOwn (pick better (out (Some t)) (on (scale ⊗ half)))
          go true t o = o
          go false t o = tt

  last_good : (i : ℕ) (s : Residual) → Own s → Holds (last_test a b confusion i s)
  unfolding last_test Holds
  last_good i s o = go (near_of a b s confusion) (λ t. near_good s confusion o self t)
    where
      go : (near : Bool) → (T near → IsIntersection a b confusion s.x × H s.x) → Holds (pick near (At s.x) (Refused (refusal.NoMeeting i)))
      go true g = g tt
      go false g = tt

  KeptOwn : Flow Residual Met → Type 0
  unfolding Own Holds
  KeptOwn = Kept Own Holds

  after_trials_lem : (i : ℕ) (s : Residual) → Own s → (r : Option Residual) → TrialOwn r → KeptOwn (going_on (after_trials a b confusion i s r))
  unfolding TrialOwn KeptOwn
  after_trials_lem i s o (Some t) h = h
  after_trials_lem i s o None h = last_good i s o

  after_correction : (i : ℕ) (s : Residual) → Own s → (r : Correction) → KeptOwn (going_on (after_solve a b target confusion i s r))
  unfolding KeptOwn
  after_correction i s o (Ok d) = after_trials_lem i s o (trials_of a b target s d) (trials_own s d o)
  after_correction i s o (Err e) = tt

  round_good : (i : ℕ) (s : Residual) → Own s → KeptOwn (round_body a b target confusion i s)
  unfolding newton_round KeptOwn
  round_good i s o = go (near_of a b s (tenth ⊗ confusion)) (λ t. near_good s (tenth ⊗ confusion) o tight t)
    where
      go : (near : Bool) → (T near → IsIntersection a b confusion s.x × H s.x)
          → KeptOwn (going_on (pick near (Break (At s.x)) (after_solve a b target confusion i s (correction_of a b target s))))
      go true g = g tt
      go false g = after_correction i s o (correction_of a b target s)

  newton_holds : (x : Parameters) → H x → Holds (newton_of a b target x confusion)
  unfolding newton_of KeptOwn
  newton_holds x h =
      searched_keeps (round_body a b target confusion) (last_test a b confusion most_rounds) Own Holds round_good (λ s o. last_good most_rounds s o) 0 most_rounds _ (residual_own x h)

  newton_has : (x y : Parameters) → H x → newton_of a b target x confusion ≡ At y → IsIntersection a b confusion y × H y
  unfolding Holds
  newton_has x y h e = subst Holds e (newton_holds x h)

-- ---- one parameter by its index

with_parameter_lem : (x : Parameters) (k : ℕ) (v : Float) → parameter_of (with_parameter x k v) k ≡ v
unfolding parameter_of with_parameter
with_parameter_lem x k v = go (eqb k 0) (eqb k 1) (eqb k 2)
  where
    set : Bool → Bool → Bool → Parameters
    set p q r =
        pick p (record { u1 = v; v1 = x.v1; u2 = x.u2; v2 = x.v2 })
        (pick q (record { u1 = x.u1; v1 = v; u2 = x.u2; v2 = x.v2 })
        (pick r (record { u1 = x.u1; v1 = x.v1; u2 = v; v2 = x.v2 }) (record { u1 = x.u1; v1 = x.v1; u2 = x.u2; v2 = v })))

    go : (p q r : Bool) → pick p (set p q r).u1 (pick q (set p q r).v1 (pick r (set p q r).u2 (set p q r).v2)) ≡ v
    go true q r = refl
    go false true r = refl
    go false false true = refl
    go false false false = refl

bounded_parameter : (a b : Patch) (x : Parameters) (k : ℕ) → parameter_of (within_bounds a b x) k ≡ bounded_of (window_of a b k) (parameter_of x k)
unfolding parameter_of within_bounds
bounded_parameter a b x k = go (eqb k 0) (eqb k 1) (eqb k 2)
  where
    go : (p q r : Bool) → pick p (bounded_of a.u x.u1) (pick q (bounded_of a.v x.v1) (pick r (bounded_of b.u x.u2) (bounded_of b.v x.v2)))
        ≡ bounded_of (pick p a.u (pick q a.v (pick r b.u b.v))) (pick p x.u1 (pick q x.v1 (pick r x.u2 x.v2)))
    go true q r = refl
    go false true r = refl
    go false false true = refl
    go false false false = refl

-- ---- under a fit tolerance

module _ (a b : Patch) (tol : Tolerance) (fit : T (tolerance_fit tol)) where
  abbrev c : Float
  c = tol.confusion

  low_high : T (least_confusion ≤? c) × T (c ≤? one)
  low_high = fit_tolerance tol fit

  c_finite : T (finite c)
  c_finite = finite_between c low_high.0 low_high.1

  c_positive : T (positive c)
  c_positive = between least_confusion c one (unfold of_bits in tt) (unfold of_bits in tt) low_high.0 low_high.1

  tight : T (tenth ⊗ c ≤? c)
  tight =
      tenth_le c c_positive (lt_of_lt_of_le (pow_pos 1034) (least_under c c_finite low_high.0))
      (lt_of_le_of_lt (under_one c c_finite (unsigned c c_positive) low_high.1) (lit< tt))

  self : T (c ≤? c)
  self = le_self c (le_numbers c one low_high.1).0

  -- Every meeting is good: its parameters lie inside the windows that apply, and the computed gap there is at most confusion.
  pub meet_intersects : (x y : Parameters) → meet_of a b x tol ≡ At y → IsIntersection a b c y
  unfolding meet_of
  meet_intersects x y e = (newton_has a b Free c tight self (λ x. T true) (λ x d scale h. tt) (within_bounds a b x) y tt e).0

  pub meet_in_plane_intersects : (x y : Parameters) (origin : Point3D) (normal : Vector3D) → meet_in_plane_of a b x origin normal tol ≡ At y → IsIntersection a b c y
  unfolding meet_in_plane_of
  meet_in_plane_intersects x y origin normal e = (newton_has a b (Plane origin normal) c tight self (λ x. T true) (λ x d scale h. tt) (within_bounds a b x) y tt e).0

  -- So is every landing, and where its bound lies in the pinned parameter's window the answer has that parameter at the bound.
  pub land_intersects : (x y : Parameters) (pin : ℕ) (value : Float) → land_of a b x pin value tol ≡ At y → IsIntersection a b c y
  unfolding land_of
  land_intersects x y pin value e = (newton_has a b (Pin pin) c tight self (λ x. T true) (λ x d scale h. tt) (with_parameter (within_bounds a b x) pin value) y tt e).0

  pub land_pinned : (x y : Parameters) (pin : ℕ) (value : Float) → bounded_of (window_of a b pin) value ≡ value → land_of a b x pin value tol ≡ At y → parameter_of y pin ≡ value
  unfolding land_of shifted_of
  land_pinned x y pin value w e =
      (newton_has a b (Pin pin) c tight self (λ (z : Parameters). parameter_of z pin ≡ value)
      (λ z d scale h.
      let y = all_shifted z d scale in
      bounded_parameter a b (with_parameter y pin (parameter_of z pin)) pin ∙ ap (bounded_of (window_of a b pin)) (with_parameter_lem y pin (parameter_of z pin) ∙ h) ∙ w)
      (with_parameter (within_bounds a b x) pin value) y (with_parameter_lem (within_bounds a b x) pin value) e).1

  -- And at good parameters all six coordinates are finite.
  pub intersection_finite : (x : Parameters) → IsIntersection a b c x → PointFinite (point_a a x) × PointFinite (point_b b x)
  intersection_finite x g = gap_finite (point_a a x) (point_b b x) c c_finite g.gap
