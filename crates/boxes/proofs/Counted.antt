-- The crossing says yes exactly when nothing refuses and some segment counts, and no exactly when nothing refuses and none does.
use Rattle.std.specs.Prelude.{Ok, Err}
use mathlib.Core.Path.{◌≡◌, refl, ap, sym, ◌∙◌}
use mathlib.Core.Bool.{Bool, true, false, not}
use mathlib.Core.Logic.{◌↔◌}
use mathlib.Core.List.{List}
use Prim.Native.Nat.{ℕ, ◌+◌, ◌-◌, ◌/◌, ◌%◌, ◌<◌}
use native.Mathlib.Omega.{arith}
use lib.Dec.{ltb}
use lib.Ieee.{Float}
use borrow.Author.Tests.{ltb-true, ltb-false, le-leb, not-false, not-true}
use Rattle.loops.specs.Loop.{pick}
use Rattle.loops.proofs.Any.{any_found, any_at, any_none, any_fails}
use Rattle.groups.specs.Groups.{width, count_fits, from_group, holds_of}
use Rattle.groups.proofs.Groups.{holds_length, count_fits_lem, fits_count}
use Rattle.geometry.specs.Tolerance.{tolerance_fit}
use Rattle.geometry.specs.declared.tolerance.Tolerance.{Tolerance}
use Rattle.refusal.specs.declared.Refusal.TheVariants as refusal
use Rattle.refusal.specs.Verdict.{Verdict}
use Rattle.refusal.proofs.Laws.{number_positive}
use Rattle.refusal.proofs.Order.{asked_held, first_passed}
use Rattle.boxes.specs.declared.boxtree.Aabb.{Aabb}
use Rattle.boxes.specs.Bounds.{boxes_apart, bounds_of}
use Rattle.boxes.specs.Crosses.{segment_meets, some_segment, run_crosses, run_length, runs_of, run_start, run_points, run_at, some_run, grown_of, crosses_of}
use Rattle.boxes.specs.Crossing.{Crossed}
use Rattle.boxes.specs.Crossing.{box_fit, unfit_at, some_unfit, refusal_of, crossed_of, crossing_tests, crossing_fitness, answer_of, crossing_of}
use Rattle.boxes.specs.Counts.{run_bounds, Counts, Fit}
use Rattle.boxes.proofs.Listed.{segment_part}

-- a test that keeps out: what passes it
past : (t : Bool) {u : Bool} → pick t false u ≡ true → (t ≡ false) × (u ≡ true)
past true e = let z : ◌≡◌ {A = ℕ} 0 1 = cc in absurd (omega arith)
past false e = (refl, e)

-- the segments of a run: those below 16 that the trace has
run_below : (count first k : ℕ) → k < run_points count first - 1 → (k < run_length) × (first + k + 1 < count)
run_below count first k = go (ltb (run_length + 1) (count - first)) refl
  where
    go : (t : Bool) → ltb (run_length + 1) (count - first) ≡ t → k < pick t (run_length + 1) (count - first) - 1 → (k < run_length) × (first + k + 1 < count)
    go true e h = let l = ltb-true (run_length + 1) (count - first) e in (omega arith, omega arith)
    go false e h = let l = ltb-false (run_length + 1) (count - first) e in (omega arith, omega arith)

run_reaches : (count first k : ℕ) → k < run_length → first + k + 1 < count → k < run_points count first - 1
run_reaches count first k h l = go (ltb (run_length + 1) (count - first))
  where
    go : (t : Bool) → k < pick t (run_length + 1) (count - first) - 1
    go true = omega arith
    go false = omega arith

module _ (l : List Float) (count : ℕ) (b : Aabb) (confusion : Float) where
  -- yes, so some segment counts
  pub counts_found : crosses_of l count b confusion ≡ true → (i : ℕ) × Counts l count (grown_of b confusion) i
  unfolding crosses_of some_run run_crosses some_segment
  counts_found y =
      let g = grown_of b confusion in
      let w = past (boxes_apart (bounds_of l count) g) y in
      let r = any_found (run_at l count g) 0 (runs_of count) w.1 in
      let q = past (boxes_apart (run_bounds l count r.0) g) r.3 in
      let k = any_found (segment_meets (from_group width (run_start r.0) l) g) 0 (run_points count (run_start r.0) - 1) q.1 in
      let s = run_below count (run_start r.0) k.0 k.2 in
      let n : (run_start r.0 + k.0) / run_length ≡ r.0 = omega (arith, s.0) in (
        run_start r.0 + k.0,
        record {
          segment = s.1;
          whole = w.0;
          run = rw n q.0;
          meets = sym (segment_part l g (run_start r.0) k.0) ∙ k.3;
        },
      )

  -- a segment counts, so yes
  pub counts_crosses : (i : ℕ) → Counts l count (grown_of b confusion) i → crosses_of l count b confusion ≡ true
  unfolding crosses_of some_run run_crosses some_segment
  counts_crosses i c =
      let g = grown_of b confusion in
      let q = i / run_length in
      let m = i % run_length in
      let e : run_start q + m ≡ i = omega arith in
      let s : segment_meets l g (run_start q + m) ≡ true = rw e c.meets in
      let k = any_at (segment_meets (from_group width (run_start q) l) g) 0 (run_points count (run_start q) - 1) m (omega arith)
      (run_reaches count (run_start q) m (omega arith) (omega (arith, c.segment)))
      (segment_part l g (run_start q) m ∙ s) in
      let r = any_at (run_at l count g) 0 (runs_of count) q (omega arith) (omega (arith, c.segment)) (rw c.run k) in
      rw c.whole r

  -- `crosses` is 01's sentence: yes exactly when some segment counts
  pub crosses_counts : (crosses_of l count b confusion ≡ true) ↔ ((i : ℕ) × Counts l count (grown_of b confusion) i)
  crosses_counts = (counts_found, λ c. counts_crosses c.0 c.1)

-- where a trace is not refused, the tests passed
passed_of : (v : Verdict) (t : Bool) → refusal_of (answer_of v t) ≡ 0 → v ≡ Ok tt
passed_of (Ok u) t e = refl
passed_of (Err r) t e = let h = number_positive r in absurd (omega (arith, h, e))

-- a crossed trace is not refused
crossed_answer : (x : Crossed) → crossed_of x ≡ true → refusal_of x ≡ 0
crossed_answer (Ok t) e = refl
crossed_answer (Err r) e = let z : ◌≡◌ {A = ℕ} 0 1 = cc in absurd (omega arith)

module _ (tol : Tolerance) (l : List Float) (count : ℕ) (b : Aabb) where
  -- the tests pass exactly where nothing refuses
  pub tests_fit : crossing_fitness tol l count b ≡ Ok tt → Fit tol l count b
  unfolding crossing_fitness some_unfit
  tests_fit e =
      let s = first_passed (crossing_tests tol l count b) e in
      let c = count_fits_lem count (asked_held (count_fits count) refusal.Claim s.1.1.0) in
      let u = asked_held (not (some_unfit l count)) refusal.Coordinate s.1.1.1.0 in
      record {
        tolerance = asked_held (tolerance_fit tol) refusal.Tolerance s.0;
        lent = holds_length width l count (asked_held (holds_of width l count) refusal.Lent s.1.0);
        least = c.0;
        most = c.1;
        coordinates = λ i h. not-false _ (any_fails (unfit_at l) 0 count (not-true (some_unfit l count) u) i (omega arith) h);
        corners = asked_held (box_fit b) refusal.BoxNumber s.1.1.1.1.0;
      }

  pub fit_tests : Fit tol l count b → crossing_fitness tol l count b ≡ Ok tt
  unfolding crossing_fitness some_unfit holds_of
  fit_tests f =
      let n = any_none (unfit_at l) 0 count (λ i z h. ap not (f.coordinates i h)) in
      rw (f.tolerance, le-leb _ _ f.lent, fits_count count f.least f.most, n, f.corners)

  -- where nothing refuses, `crosses` answers
  pub fit_answer : Fit tol l count b → crossing_of tol l count b ≡ Ok (crosses_of l count b tol.confusion)
  unfolding crossing_of
  fit_answer f = rw (fit_tests f)

  fit_of : refusal_of (crossing_of tol l count b) ≡ 0 → Fit tol l count b
  unfolding crossing_of
  fit_of e = tests_fit (passed_of (crossing_fitness tol l count b) (crosses_of l count b tol.confusion) e)

  -- no number exactly when none of 5, 8, 12, 18, 17 refuses
  pub answers_when : (refusal_of (crossing_of tol l count b) ≡ 0) ↔ Fit tol l count b
  answers_when = (fit_of, λ f. ap refusal_of (fit_answer f))

  -- The sentence of the scope, for every input: the answer is yes exactly when nothing refuses (`Fit`) and there is a segment i of the
  -- trace, from point i to point i + 1, such that the box of the whole trace and the box of run i / 16 are not apart from the box grown
  -- by 8000 times confusion, and `segment_meets_box` holds of it (`Counts`)
  pub crossed_when : (crossed_of (crossing_of tol l count b) ≡ true) ↔ (Fit tol l count b × ((i : ℕ) × Counts l count (grown_of b tol.confusion) i))
  crossed_when = (there, back)
    where
      there : crossed_of (crossing_of tol l count b) ≡ true → Fit tol l count b × ((i : ℕ) × Counts l count (grown_of b tol.confusion) i)
      there e =
          let f = fit_of (crossed_answer (crossing_of tol l count b) e) in
          let y = sym (ap crossed_of (fit_answer f)) ∙ e in
          (f, counts_found l count b tol.confusion y)

      back : Fit tol l count b × ((i : ℕ) × Counts l count (grown_of b tol.confusion) i) → crossed_of (crossing_of tol l count b) ≡ true
      back p =
          ap crossed_of (fit_answer p.0)
          ∙ counts_crosses l count b tol.confusion p.1.0 p.1.1
