-- The loop of a half: its invariant, what an iteration makes of it and what holds at each way out.
use mathlib.Core.Path.{◌≡◌, refl, ap, sym, subst, ◌∙◌}
use mathlib.Core.Bool.{Bool, true, false}
use mathlib.Core.List.{List, [], ◌∷◌, reverse}
use Prim.Native.Nat.{ℕ, ◌+◌, ◌*◌, ◌-◌, ◌≤◌, ◌<◌}
use native.Mathlib.Omega.{arith}
use lib.Ieee.{Float}
use lib.ListN.{length, take}
use Rattle.loops.specs.Loop.{pick, out}
use Rattle.loops.proofs.Loop.{searched_again, searched_leave, searched_done}
use Rattle.groups.specs.Groups.{width}
use Rattle.groups.specs.declared.row.Row.{Row}
use Rattle.geometry.specs.declared.point.Point3D.{Point3D}
use Rattle.geometry.specs.declared.vector.Vector3D.{Vector3D}
use Rattle.geometry.specs.declared.tolerance.Tolerance.{Tolerance}
use Rattle.patch.specs.declared.patch.Patch.{Patch}
use Rattle.patch.specs.declared.patch.Parameters.{Parameters}
use Rattle.patch.specs.Located.{point_a}
use Rattle.step.specs.declared.attempt.Walker.{Walker}
use Rattle.step.specs.declared.step.Stepped.{Stepped}
use Rattle.step.specs.declared.step.Stepped.TheVariants.{Onward, Closed, Edge, Ended}
use Rattle.step.specs.Step.{step_of}
use Rattle.step.specs.Closing.{first_stride}
use Rattle.step.proofs.Steps.{SteppedFine, step_fine}
use Rattle.walk.specs.Lent.{placed, row_for, own_row, rows_of}
use Rattle.walk.specs.Line.{Half, Halfway, first_walker, without_last, after_step, half_body, half_spent, half_from, half_of, Written}
use Rattle.walk.proofs.Rows.{length_put, pushed, popped}

-- the half that the loop's first values begin
abbrev pub begun : Patch → Patch → Tolerance → Float → Parameters → ℕ → Walker → Float → Half
begun a b tol dir x n w h = half_from a b tol dir x n 0 (record { w = w; h = h; points = [] })

-- the invariant: `l` holds the points so far, in the order walked
pub record Going (a b : Patch) (tol : Tolerance) (dir : Float) (x : Parameters) (p : Point3D) (n : ℕ) (w₀ : Walker) (h₀ : Float) (out₀ l : List Float)
    (w : Walker) (h : Float) (count : ℕ) : Type 0 where
  pub own : p ≡ point_a a x
  pub enough : width * n ≤ length out₀
  pub points : List Parameters
  pub same : half_from a b tol dir x n count (record { w = w; h = h; points = points }) ≡ begun a b tol dir x n w₀ h₀
  pub size : count ≡ length points
  pub within : count ≤ n
  pub written : take (width * count) l ≡ rows_of (own_row a) (reverse points)
  pub room : length l ≡ length out₀

pub going_start : {a b : Patch} {tol : Tolerance} {dir : Float} {x : Parameters} {p : Point3D} {n : ℕ} {w : Walker} {h : Float} {l : List Float}
    → p ≡ point_a a x → width * n ≤ length l → Going a b tol dir x p n w h l l w h 0
unfolding rows_of
going_start own enough = record {
  own = own;
  enough = enough;
  points = [];
  same = refl;
  size = refl;
  within = omega arith;
  written = refl;
  room = refl;
}

module _ {a b : Patch} {tol : Tolerance} {dir : Float} {x : Parameters} {p : Point3D} {n : ℕ} {w₀ : Walker} {h₀ : Float} {out₀ l : List Float} {w : Walker} {h : Float}
    {count : ℕ} (g : Going a b tol dir x p n w₀ h₀ out₀ l w h count) where
  -- it is the half of the definition
  pub begun_is : (t : Vector3D) → w₀ ≡ first_walker x p t dir → h₀ ≡ first_stride tol.confusion → begun a b tol dir x n w₀ h₀ ≡ half_of a b tol dir x t n
  unfolding half_of
  begun_is t ew eh = rw (ew, eh, g.own)

  abbrev state : Halfway
  state = record { w = w; h = h; points = g.points }

  -- ---- before a step

  module _ (again : count < n) where
    pub few_left : (removed : Bool) {k : ℕ} → k ≡ pick removed (count - 1) count → k < n
    few_left true ek = omega (arith, again, ek)
    few_left false ek = omega (arith, again, ek)

    pub fits : {k : ℕ} → k < n → width * k + width ≤ length l
    fits f = let r = g.room in let k = g.enough in omega (arith, f, r, k)

    -- ---- what a step says

    module _ {stepped : Stepped} (es : stepped ≡ step_of a b tol dir p count w h) where
      fine : (s : Stepped) → stepped ≡ s → SteppedFine a b tol count w.p s
      fine s e = subst (SteppedFine a b tol count w.p) (sym es ∙ e) (step_fine a b tol dir p count w h)

      says : (s : Stepped) → stepped ≡ s → half_body a b tol dir x count state ≡ after_step x g.points s
      says s e =
          ap (after_step x g.points)
          (ap (λ (k : ℕ). step_of a b tol dir (point_a a x) k w h) (sym g.size) ∙ ap (λ (q : Point3D). step_of a b tol dir q count w h) (sym g.own) ∙ sym es ∙ e)

      pub going_on : {next : Walker} {k : Float} {r : Row} {m : List Float} → stepped ≡ Onward next k → r ≡ row_for next.p next.x → m ≡ placed l (width * count) r
          → Going a b tol dir x p n w₀ h₀ out₀ m next k (count + 1)
      going_on {next} {k} {r} e er em = record {
        own = g.own;
        enough = g.enough;
        points = next.x ∷ g.points;
        same = searched_again (half_body a b tol dir x) half_spent count n {s = state} again (says (Onward next k) e) g.same;
        size = let s = g.size in omega (arith, s);
        within = omega (arith, again);
        written = pushed (own_row a) next.x count g.points l g.written (fits again) (er ∙ ap (λ (q : Point3D). row_for q next.x) (fine (Onward next k) e).own) em;
        room = length_put l (width * count) r (fits again) em ∙ g.room;
      }

      pub held : {removed : Bool} → stepped ≡ Closed removed → 3 ≤ count
      held {removed} e = fine (Closed removed) e

      -- what is left where the half closes
      rest : (removed : Bool) → stepped ≡ Closed removed
          → (pick removed (count - 1) count ≡ length (pick removed (without_last g.points) g.points))
          × (take (width * pick removed (count - 1) count) l ≡ rows_of (own_row a) (reverse (pick removed (without_last g.points) g.points)))
      rest true e = popped (own_row a) count l g.points g.size (let k = held e in omega (arith, k)) g.written
      rest false e = (g.size, g.written)

      -- ---- the ways out

      module _ {u : Half} (eu : begun a b tol dir x n w₀ h₀ ≡ u) where
        left : (v : Half) {s : Stepped} → stepped ≡ s → after_step x g.points s ≡ out v → {m : List Float} {k : ℕ} {closed : Bool}
            → Written (own_row a) n v m k closed → Written (own_row a) n u m k closed
        left v {s} e o {m} {k} {closed} d =
            subst (λ (v : Half). Written (own_row a) n v m k closed)
            (searched_leave (half_body a b tol dir x) half_spent count n {s = state} again (says s e ∙ o) g.same ∙ eu) d

        pub going_ended : stepped ≡ Ended → Written (own_row a) n u l count false
        going_ended e = left (half_spent state) e refl (record { size = g.size; ends = refl; few = omega (arith, again); rows = g.written })

        pub going_edge : {y : Parameters} {q : Point3D} {r : Row} {m : List Float} → stepped ≡ Edge y q → r ≡ row_for q y → m ≡ placed l (width * count) r
            → Written (own_row a) n u m (count + 1) false
        going_edge {y} {q} e er em =
            left (record { points = y ∷ g.points; closed = false }) e refl (record {
              size = let z = g.size in omega (arith, z);
              ends = refl;
              few = omega (arith, again);
              rows = pushed (own_row a) y count g.points l g.written (fits again) (er ∙ ap (λ (q : Point3D). row_for q y) (fine (Edge y q) e).own) em;
            })

        pub going_closed : {removed : Bool} {k : ℕ} {r : Row} {m : List Float} → stepped ≡ Closed removed → k ≡ pick removed (count - 1) count → r ≡ row_for p x
            → m ≡ placed l (width * k) r → Written (own_row a) n u m (k + 1) true
        going_closed {removed} {k} {r} {m} e ek er em =
            let kept : List Parameters = pick removed (without_last g.points) g.points in
            let s = rest removed e in
            let z : k ≡ length kept = ek ∙ s.0 in
            left (record { points = x ∷ kept; closed = true }) e refl (record {
              size = omega (arith, z);
              ends = refl;
              few = let f = few_left removed ek in omega (arith, f);
              rows =
                  pushed (own_row a) x k kept l (ap (λ (j : ℕ). take (width * j) l) ek ∙ s.1) (fits (few_left removed ek))
                  (er ∙ ap (λ (q : Point3D). row_for q x) g.own) em;
            })

  -- the steps are spent
  pub going_spent : n ≤ count → {u : Half} → begun a b tol dir x n w₀ h₀ ≡ u → Written (own_row a) n u l n false
  going_spent e eu =
      let z : count ≡ n = let k = g.within in omega (arith, k, e) in
      subst (λ (v : Half). Written (own_row a) n v l n false)
      (searched_done (half_body a b tol dir x) half_spent count n {s = state} e g.same ∙ eu)
      (record { size = sym z ∙ g.size; ends = refl; few = omega arith; rows = ap (λ (k : ℕ). take (width * k) l) (sym z) ∙ g.written })
