-- What a half of the walk keeps: its points are good, each chord is at most 0.2, and it holds no more points than steps.
use mathlib.Core.Path.{◌≡◌, refl, subst}
use mathlib.Core.Bool.{Bool, true, false}
use mathlib.Core.List.{List, [], ◌∷◌, ◌++◌}
use Prim.Native.Nat.{ℕ, ◌+◌, ◌≤◌, ◌<◌}
use native.Mathlib.Omega.{arith}
use lib.Dec.{T}
use lib.Ieee.{Float}
use lib.ListN.{length}
use Rattle.std.specs.List.{All}
use Rattle.std.proofs.lemmas.List.Elements.{All-nil, All-cons, All-tail}
use Rattle.loops.specs.Loop.{pick}
use Rattle.loops.proofs.Loop.{Kept, searched_keeps_at}
use Rattle.number.specs.Operators.{◌≤?◌}
use Rattle.geometry.specs.declared.point.Point3D.{Point3D}
use Rattle.geometry.specs.declared.vector.Vector3D.{Vector3D}
use Rattle.geometry.specs.declared.tolerance.Tolerance.{Tolerance}
use Rattle.geometry.specs.Tolerance.{tolerance_fit}
use Rattle.geometry.specs.Point.{distance_of, longest_chord}
use Rattle.gap.proofs.Gap.{distance_swap}
use Rattle.patch.specs.declared.patch.Patch.{Patch}
use Rattle.patch.specs.declared.patch.Parameters.{Parameters}
use Rattle.patch.specs.Located.{point_a}
use Rattle.meeting.specs.Intersection.{IsIntersection}
use Rattle.step.specs.Step.{step_of}
use Rattle.walk.specs.Line.{Half, Halfway, first_walker, without_last, after_step, half_body, half_spent, half_of}
use Rattle.step.specs.Closing.{first_stride}
use Rattle.step.specs.declared.step.Stepped.{Stepped}
use Rattle.step.specs.declared.step.Stepped.TheVariants.{Onward, Closed, Edge, Ended}
use Rattle.step.proofs.Steps.{Fine, SteppedFine, step_fine}
use Rattle.passing.proofs.Chains.{Linked, first_or, linked_front, linked_rest}

-- the computed chord from z to y is at most 0.2
abbrev pub Near : Patch → Parameters → Parameters → Type 0
Near a y z = T (distance_of (point_a a y) (point_a a z) ≤? longest_chord)

pub near_swap : (a : Patch) (y z : Parameters) → Near a y z → Near a z y
near_swap a y z h = subst (λ (d : Float). T (d ≤? longest_chord)) (distance_swap (point_a a y) (point_a a z)) h

-- how a half from x with these points, the last one first, ended: on its start again or not
pub data Ends (a : Patch) (x : Parameters) (points : List Parameters) (closed : Bool) : Type 0 where
  left_open : closed ≡ false → Linked (Near a) (points ++ (x ∷ [])) → Ends a x points closed
  came_round_lem : closed ≡ true → (kept : List Parameters) → points ≡ x ∷ kept → 2 ≤ length kept → Linked (Near a) (kept ++ (x ∷ [])) → Ends a x points closed

pub record HalfFine (a b : Patch) (confusion : Float) (x : Parameters) (n : ℕ) (points : List Parameters) (closed : Bool) : Type 0 where
  pub few : length points ≤ n
  pub good : All (IsIntersection a b confusion) points
  pub ends : Ends a x points closed

module _ (a b : Patch) (tol : Tolerance) (fit : T (tolerance_fit tol)) (dir : Float) (x : Parameters) (gx : IsIntersection a b tol.confusion x) (n : ℕ) where
  abbrev Good : Parameters → Type 0
  Good = IsIntersection a b tol.confusion

  -- before iteration i: the walker stands on the last point
  record Sofar (i : ℕ) (s : Halfway) : Type 0 where
    few : length s.points ≤ i
    good : All Good s.points
    linked : Linked (Near a) (s.points ++ (x ∷ []))
    stands : s.w.p ≡ point_a a (first_or (Near a) x s.points)

  abbrev Done : Half → Type 0
  Done v = HalfFine a b tol.confusion x n v.points v.closed

  -- a new point joins the chain
  joins : (ps : List Parameters) (p : Point3D) (y : Parameters) (q : Point3D) → p ≡ point_a a (first_or (Near a) x ps) → Fine a b tol p y q
      → Linked (Near a) (ps ++ (x ∷ [])) → Linked (Near a) (y ∷ (ps ++ (x ∷ [])))
  joins ps p y q e f l =
      linked_front (Near a) y x ps
      (subst (λ (r : Point3D). T (distance_of (point_a a y) r ≤? longest_chord)) e (subst (λ (r : Point3D). T (distance_of r p ≤? longest_chord)) f.own f.chord)) l

  closes : (ps : List Parameters) (removed : Bool) → length ps < n → 3 ≤ length ps → All Good ps → Linked (Near a) (ps ++ (x ∷ []))
      → HalfFine a b tol.confusion x n (x ∷ pick removed (without_last ps) ps) true
  closes [] removed h k g l = absurd (let e : ⊥ = omega arith in e)
  closes (y ∷ ys) true h k g l = record {
    few = omega arith;
    good = All-cons Good x ys gx (All-tail Good y ys g);
    ends = came_round_lem refl ys refl (omega arith) (linked_rest (Near a) y x ys l);
  }
  closes (y ∷ ys) false h k g l = record {
    few = omega arith;
    good = All-cons Good x (y ∷ ys) gx g;
    ends = came_round_lem refl (y ∷ ys) refl (omega arith) l;
  }

  after : (i : ℕ) (s : Halfway) → i < n → Sofar i s → (r : Stepped) → SteppedFine a b tol (length s.points) s.w.p r
      → Kept (Sofar (i + 1)) Done (after_step x s.points r)
  after i s h v (Onward w k) f = record {
    few = let e = v.few in omega (arith, e);
    good = All-cons Good w.x s.points (f.good fit) v.good;
    linked = joins s.points s.w.p w.x w.p v.stands f v.linked;
    stands = f.own;
  }
  after i s h v (Closed removed) f = closes s.points removed (let e = v.few in omega (arith, e, h)) f v.good v.linked
  after i s h v (Edge y q) f = record {
    few = let e = v.few in omega (arith, e, h);
    good = All-cons Good y s.points (f.good fit) v.good;
    ends = left_open refl (joins s.points s.w.p y q v.stands f v.linked);
  }
  after i s h v Ended f = record {
    few = let e = v.few in omega (arith, e, h);
    good = v.good;
    ends = left_open refl v.linked;
  }

  pub half_fine : (t : Vector3D) → HalfFine a b tol.confusion x n (half_of a b tol dir x t n).points (half_of a b tol dir x t n).closed
  unfolding half_of first_walker
  half_fine t =
      searched_keeps_at (half_body a b tol dir x) half_spent Sofar Done 0 n
      (λ i s h v. after i s h v (step_of a b tol dir (point_a a x) (length s.points) s.w s.h) (step_fine a b tol dir (point_a a x) (length s.points) s.w s.h))
      (λ s v. record { few = v.few; good = v.good; ends = left_open refl v.linked })
      (omega arith)
      (record { w = first_walker x (point_a a x) t dir; h = first_stride tol.confusion; points = [] })
      (record { few = omega arith; good = All-nil Good; linked = tt; stands = refl })
