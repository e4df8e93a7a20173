-- What every step of the walk keeps: a new point is A's own for its parameters, under a fit tolerance an intersection, and its computed
-- chord from the last is at most 0.2; a half closes only when it holds 3 points.
use Rattle.std.specs.Prelude.{Some, None, Option}
use mathlib.Core.Path.{◌≡◌, refl, subst}
use mathlib.Core.Bool.{Bool, true, false}
use Prim.Native.Nat.{ℕ, ◌≤◌}
use denote.Floats.{passes}
use lib.Dec.{T, leb, leb→le}
use lib.Ieee.{Float}
use lib.Ieee.Fits.{and_l, and_r}
use Rattle.loops.specs.Loop.{pick, out}
use Rattle.loops.proofs.Loop.{Kept, searched_keeps}
use Rattle.number.specs.Operators.{bits, ◌⊗◌, ◌<?◌, ◌≤?◌}
use Rattle.number.specs.Helpers.{two}
use Rattle.geometry.specs.declared.point.Point3D.{Point3D}
use Rattle.geometry.specs.declared.vector.Vector3D.{Vector3D}
use Rattle.geometry.specs.declared.tolerance.Tolerance.{Tolerance}
use Rattle.geometry.specs.Tolerance.{tolerance_fit}
use Rattle.geometry.specs.Vector.{dot_of, scale_of}
use Rattle.geometry.specs.Point.{distance_of, longest_chord, difference_of, add_vector_of}
use Rattle.patch.specs.declared.patch.Patch.{Patch}
use Rattle.patch.specs.declared.patch.Parameters.{Parameters}
use Rattle.meeting.specs.declared.newton.Met.{Met}
use Rattle.meeting.specs.declared.newton.Met.TheVariants as met
use Rattle.marching.specs.declared.leaving.Exit.{Exit}
use Rattle.tangent.specs.Tangent.{tangent_of}
use Rattle.marching.specs.Leaving.{leaving_of}
use Rattle.patch.specs.Located.{point_a}
use Rattle.meeting.specs.Newton.{meet_in_plane_of, land_of}
use Rattle.meeting.specs.Intersection.{IsIntersection}
use Rattle.meeting.proofs.Intersection.{meet_in_plane_intersects, land_intersects}
use Rattle.step.specs.declared.attempt.Walker.{Walker}
use Rattle.step.specs.declared.attempt.Stride.{Stride}
use Rattle.step.specs.declared.attempt.Stride.TheVariants as stride
use Rattle.step.specs.Attempt.{kept_of, landing_kept, after_landing, landed_of, turn_of, accepted_of, next_walker, onward_at, onward_of}
use Rattle.step.specs.Attempt.{after_tangent, after_meeting, inner_of, towards, predicted, attempt_of}
use Rattle.step.specs.Shorten.{stride_body, after_attempt, no_stride, most_halvings, stride_of}
use Rattle.step.specs.Closing.{closes_of, next_stride}
use Rattle.step.specs.Step.{least_edge, edge_step, came_round, inner_step, near_start, after_stride, step_of}
use Rattle.step.specs.declared.step.Stepped.{Stepped}
use Rattle.step.specs.declared.step.Stepped.TheVariants.{Onward, Closed, Edge, Ended}

-- what holds of a new point q with parameters y, the last point being p
pub record Fine (a b : Patch) (tol : Tolerance) (p : Point3D) (y : Parameters) (q : Point3D) : Type 0 where
  pub own : q ≡ point_a a y
  pub good : T (tolerance_fit tol) → IsIntersection a b tol.confusion y
  pub chord : T (distance_of q p ≤? longest_chord)

kept_chord : (chord h : Float) → T (kept_of chord h) → T (chord ≤? longest_chord)
unfolding kept_of
kept_chord chord h t = and_r (chord ≤? two ⊗ h) _ t

module _ (a b : Patch) (tol : Tolerance) (dir : Float) (w : Walker) where
  abbrev StrideFine : Option Stride → Type 0
  StrideFine (Some (stride.Inner next length)) = Fine a b tol w.p next.x next.p
  StrideFine (Some (stride.Edge y q)) = Fine a b tol w.p y q
  StrideFine None = T true

  abbrev Good : Parameters → Type 0
  Good y = T (tolerance_fit tol) → IsIntersection a b tol.confusion y

  edge_chord : (h : Float) (q : Point3D) → T (landing_kept w h q) → T (distance_of q w.p ≤? longest_chord)
  unfolding landing_kept
  edge_chord h q t = kept_chord _ h (and_r (bits 0 ≤? dot_of (difference_of q w.p) w.t) _ t)

  landing : (h : Float) (y : Parameters) → Good y → (t : Bool) → landing_kept w h (point_a a y) ≡ t
      → StrideFine (pick t (Some (stride.Edge y (point_a a y))) None)
  landing h y g true e = record { own = refl; good = g; chord = edge_chord h (point_a a y) (passes _ e) }
  landing h y g false e = tt

  landed_fine : (h : Float) (guess : Parameters) (pin : ℕ) (bound : Float) (m : Met) → land_of a b guess pin bound tol ≡ m → StrideFine (after_landing a w h m)
  landed_fine h guess pin bound (met.At y) e = landing h y (λ fit. land_intersects a b tol fit guess y pin bound e) (landing_kept w h (point_a a y)) refl
  landed_fine h guess pin bound (met.Refused r) e = tt

  accepted_chord : (h : Float) (ty : Vector3D) (chord turned : Float) → T (accepted_of tol.confusion w h ty chord turned) → T (chord ≤? longest_chord)
  unfolding accepted_of
  accepted_chord h ty chord turned t = kept_chord chord h (and_l (kept_of chord h) _ (and_r (bits 0 <? dot_of ty w.t) _ t))

  onward_fine : (h : Float) (y : Parameters) (ty : Vector3D) → Good y → StrideFine (onward_of tol.confusion w h y (point_a a y) ty)
  unfolding onward_of
  onward_fine h y ty g = go (distance_of (point_a a y) w.p) (turn_of w.t ty) refl
    where
      go : (chord turned : Float) → chord ≡ distance_of (point_a a y) w.p → StrideFine (onward_at tol.confusion w h y (point_a a y) ty chord turned)
      go chord turned d = at (accepted_of tol.confusion w h ty chord turned) refl
        where
          at : (t : Bool) → accepted_of tol.confusion w h ty chord turned ≡ t
              → StrideFine (pick t (Some (stride.Inner (next_walker y (point_a a y) ty chord turned) h)) None)
          at true e = record { own = refl; good = g; chord = subst (λ (l : Float). T (l ≤? longest_chord)) d (accepted_chord h ty chord turned (passes _ e)) }
          at false e = tt

  tangent_fine : (h : Float) (y : Parameters) → Good y → (d : Option Vector3D) → StrideFine (after_tangent a tol.confusion dir w h y d)
  tangent_fine h y g (Some d) = onward_fine h y (scale_of d dir) g
  tangent_fine h y g None = tt

  meeting_fine : (h : Float) (guess : Parameters) (m : Met) → meet_in_plane_of a b guess (add_vector_of w.p (scale_of w.t h)) w.t tol ≡ m
      → StrideFine (after_meeting a b tol dir w h m)
  meeting_fine h guess (met.At y) e =
      tangent_fine h y (λ fit. meet_in_plane_intersects a b tol fit guess y (add_vector_of w.p (scale_of w.t h)) w.t e) (tangent_of a b y tol)
  meeting_fine h guess (met.Refused r) e = tt

  towards_fine : (h : Float) (guess : Parameters) (e : Option Exit) → StrideFine (towards a b tol dir w h guess e)
  unfolding inner_of landed_of
  towards_fine h guess None = meeting_fine h guess _ refl
  towards_fine h guess (Some e) = landed_fine h guess e.index e.bound _ refl

  attempt_fine : (h : Float) → StrideFine (attempt_of a b tol dir w h)
  unfolding attempt_of
  attempt_fine h = towards_fine h (predicted a b w h) (leaving_of a b w.x (predicted a b w h))

  body_fine : (i : ℕ) (h : Float) → T true → Kept (λ (s : Float). T true) StrideFine (stride_body a b tol dir w i h)
  body_fine i h s = choice (tol.confusion ≤? h)
    where
      after : (r : Option Stride) → StrideFine r → Kept (λ (s : Float). T true) StrideFine (after_attempt h r)
      after (Some (stride.Inner next length)) f = f
      after (Some (stride.Edge y q)) f = f
      after None f = tt

      choice : (t : Bool) → Kept (λ (s : Float). T true) StrideFine (pick t (after_attempt h (attempt_of a b tol dir w h)) (out None))
      choice true = after (attempt_of a b tol dir w h) (attempt_fine h)
      choice false = tt

  -- every stride is fine
  stride_fine : (h : Float) → StrideFine (stride_of a b tol dir w h)
  unfolding stride_of
  stride_fine h = searched_keeps (stride_body a b tol dir w) no_stride (λ (s : Float). T true) StrideFine body_fine (λ s t. tt) 0 most_halvings h tt

-- and so is every step
abbrev pub SteppedFine : Patch → Patch → Tolerance → ℕ → Point3D → Stepped → Type 0
SteppedFine a b tol held p (Onward next length) = Fine a b tol p next.x next.p
SteppedFine a b tol held p (Closed removed) = 3 ≤ held
SteppedFine a b tol held p (Edge y q) = Fine a b tol p y q
SteppedFine a b tol held p Ended = T true

round_held : (confusion : Float) (start : Point3D) (held : ℕ) (p q : Point3D) → T (came_round confusion start held p q) → T (leb 3 held)
unfolding came_round
round_held confusion start held p q t = and_l (leb 3 held) (closes_of confusion start p q) t

module _ (a b : Patch) (tol : Tolerance) (held : ℕ) (p : Point3D) where
  inner_fine : (start : Point3D) (next : Walker) (h : Float) → Fine a b tol p next.x next.p
      → SteppedFine a b tol held p (inner_step tol.confusion start held p next h)
  unfolding inner_step
  inner_fine start next h f = go (came_round tol.confusion start held p next.p) refl
    where
      go : (t : Bool) → came_round tol.confusion start held p next.p ≡ t
          → SteppedFine a b tol held p (pick t (Closed (near_start start p h)) (Onward next (next_stride tol.confusion h next.curvature)))
      go true e = leb→le 3 held (round_held tol.confusion start held p next.p (passes _ e))
      go false e = f

  edge_fine : (y : Parameters) (q : Point3D) → Fine a b tol p y q → SteppedFine a b tol held p (edge_step tol.confusion p y q)
  unfolding edge_step
  edge_fine y q f = go (least_edge tol.confusion <? distance_of q p)
    where
      go : (t : Bool) → SteppedFine a b tol held p (pick t (Edge y q) Ended)
      go true = f
      go false = tt

pub step_fine : (a b : Patch) (tol : Tolerance) (dir : Float) (start : Point3D) (held : ℕ) (w : Walker) (h : Float)
    → SteppedFine a b tol held w.p (step_of a b tol dir start held w h)
unfolding step_of
step_fine a b tol dir start held w h = after (stride_of a b tol dir w h) (stride_fine a b tol dir w h)
  where
    after : (s : Option Stride) → StrideFine a b tol dir w s → SteppedFine a b tol held w.p (after_stride tol.confusion start held w.p s)
    after (Some (stride.Inner next length)) f = inner_fine a b tol held w.p start next length f
    after (Some (stride.Edge y q)) f = edge_fine a b tol held w.p y q f
    after None f = tt
