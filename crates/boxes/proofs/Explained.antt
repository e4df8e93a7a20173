-- What the explaining call answers is the reason that the rule of 02 gives, and nothing else: for every trace and box.
use Rattle.std.specs.Prelude.{Option, Some, None, Result, Ok, Err}
use mathlib.Core.Path.{◌≡◌, refl, sym, ap, subst, ◌∙◌}
use mathlib.Core.Bool.{true, false, not}
use mathlib.Core.Logic.{◌↔◌}
use mathlib.Core.List.{List, [], ◌++◌}
use Prim.Native.Nat.{ℕ, zero, suc, ◌+◌, ◌-◌, ◌*◌, ◌/◌, ◌≤◌, ◌<◌}
use native.Mathlib.Omega.{arith}
use lib.Dec.{ltb}
use lib.ListN.{length}
use lib.Ieee.{Float}
use borrow.Author.Tests.{ltb-true, ltb-false, not-false, not-true}
use Rattle.loops.proofs.Any.{cases, unlike}
use Rattle.loops.proofs.First.{First, Finds, first_finds, count_none, none_counted, count_most}
use Rattle.groups.specs.Groups.{width, most_points}
use Rattle.groups.specs.Row.{numbers_of, row_at}
use Rattle.groups.proofs.Groups.{both}
use Rattle.groups.proofs.Rows.{rows_part}
use Rattle.geometry.specs.declared.tolerance.Tolerance.{Tolerance}
use Rattle.refusal.specs.declared.Refusal.{Refusal}
use Rattle.refusal.specs.Refusal.{number_of}
use Rattle.refusal.specs.Verdict.{Verdict}
use Rattle.refusal.proofs.Laws.{number_positive}
use Rattle.boxes.specs.declared.boxtree.Aabb.{Aabb}
use Rattle.boxes.specs.declared.explain.Reason.{Reason}
use Rattle.boxes.specs.declared.explain.Reason.TheVariants.{Segment, WholeApart, RunsApart, NoneMet}
use Rattle.boxes.specs.Bounds.{boxes_apart, bounds_of}
use Rattle.boxes.specs.Crosses.{run_length, runs_of, run_start, segment_meets, grown_of}
use Rattle.boxes.specs.Crossing.{refusal_of, crossed_of, crossing_fitness, answer_of, crossing_of}
use Rattle.boxes.specs.Counts.{run_bounds, Counts, Fit}
use Rattle.boxes.specs.Explain.{apart_at, first_apart, run_near, met_at, first_met, near_segments, unmet_reason, runs_reason_of, runs_reason, whole_reason, trace_reason, Explained, explain_of, value_of, segment_of, stretch_at, stretch_of}
use Rattle.boxes.specs.Reasons.{Holds, place_of, Explains}
use Rattle.boxes.proofs.Counted.{tests_fit, fit_tests, crossed_when}

-- the boxes are apart exactly where they are on an axis
apart_axis : (a b : Aabb) (k : ℕ) → k < 3 → apart_at a b k ≡ true → boxes_apart a b ≡ true
unfolding boxes_apart
apart_axis a b zero h e = rw e
apart_axis a b (suc zero) h e = cases (apart_at a b 0) (λ x. rw x) (λ x. rw (x, e))
apart_axis a b (suc (suc zero)) h e = cases (apart_at a b 0) (λ x. rw x) (λ x. cases (apart_at a b 1) (λ y. rw (x, y)) (λ y. rw (x, y, e)))
apart_axis a b (suc (suc (suc k))) h e = absurd (omega arith)

no_axis : (a b : Aabb) → ((k : ℕ) → 0 ≤ k → k < 3 → apart_at a b k ≡ false) → boxes_apart a b ≡ false
unfolding boxes_apart
no_axis a b f =
    let x = f 0 (omega arith) (omega arith) in
    let y = f 1 (omega arith) (omega arith) in
    let z = f 2 (omega arith) (omega arith) in
    rw (x, y, z)

module _ (l : List Float) (count : ℕ) (grown : Aabb) where
  -- one reason holds in one way
  same : (p q : Reason) → Holds l count grown p → Holds l count grown q → place_of p ≡ place_of q → p ≡ q
  same (Segment i) (Segment j) h k e =
      cases (ltb i j) (λ c. absurd (k.1 i (ltb-true i j c) h.0))
      (λ c.
      let m = ltb-false i j c in
      cases (ltb j i) (λ d. absurd (h.1 j (ltb-true j i d) k.0)) (λ d. let n = ltb-false j i d in ap Segment (let r : i ≡ j = omega arith in r)))
  same (WholeApart i) (WholeApart j) h k e =
      cases (ltb i j) (λ c. absurd (unlike h.1 (k.2 i (ltb-true i j c))))
      (λ c.
      let m = ltb-false i j c in
      cases (ltb j i) (λ d. absurd (unlike k.1 (h.2 j (ltb-true j i d)))) (λ d. let n = ltb-false j i d in ap WholeApart (let r : i ≡ j = omega arith in r)))
  same RunsApart RunsApart h k e = refl
  same (NoneMet m) (NoneMet n) h k e = ap NoneMet (h.0 ∙ sym k.0)
  same (Segment i) (WholeApart j) h k e = absurd (omega (arith, e))
  same (Segment i) RunsApart h k e = absurd (omega (arith, e))
  same (Segment i) (NoneMet j) h k e = absurd (omega (arith, e))
  same (WholeApart i) (Segment j) h k e = absurd (omega (arith, e))
  same (WholeApart i) RunsApart h k e = absurd (omega (arith, e))
  same (WholeApart i) (NoneMet j) h k e = absurd (omega (arith, e))
  same RunsApart (Segment j) h k e = absurd (omega (arith, e))
  same RunsApart (WholeApart j) h k e = absurd (omega (arith, e))
  same RunsApart (NoneMet j) h k e = absurd (omega (arith, e))
  same (NoneMet i) (Segment j) h k e = absurd (omega (arith, e))
  same (NoneMet i) (WholeApart j) h k e = absurd (omega (arith, e))
  same (NoneMet i) RunsApart h k e = absurd (omega (arith, e))

  -- two reasons that the rule gives are one
  pub explains_same : (p q : Reason) → Explains l count grown p → Explains l count grown q → p ≡ q
  explains_same p q d e =
      let f = d.first q e.holds in
      let g = e.first p d.holds in
      same p q d.holds e.holds (omega (arith, f, g))

  -- a segment that counts meets the box, in a run that is not apart
  counts_met : (i : ℕ) → Counts l count grown i → met_at l count grown i ≡ true
  counts_met i c = rw (c.run, c.meets)

  met_counts : boxes_apart (bounds_of l count) grown ≡ false → (i : ℕ) → i < count - 1 → met_at l count grown i ≡ true → Counts l count grown i
  met_counts w i h e =
      let s = both (run_near l count grown i) (segment_meets l grown i) e in
      record { segment = omega arith; whole = w; run = not-true (boxes_apart (run_bounds l count (i / run_length)) grown) s.0; meets = s.1 }

  -- where no segment lies in a run that is not apart, all runs are
  none_near : near_segments l count grown ≡ 0 → (r : ℕ) → r < runs_of count → boxes_apart (run_bounds l count r) grown ≡ true
  none_near e r h =
      let far = none_counted (run_near l count grown) 0 (count - 1) (omega arith) e (run_start r) (omega arith) (omega arith) in
      let at : run_start r / run_length ≡ r = omega arith in
      not-false _ (ap (λ (q : ℕ). not (boxes_apart (run_bounds l count q) grown)) (sym at) ∙ far)

  -- so a count that is the reason is 1 at least
  pub count_some : (n : ℕ) → Explains l count grown (NoneMet n) → 1 ≤ n
  count_some zero e = let h = e.first RunsApart (none_near (sym e.holds.0)) in absurd (omega (arith, h))
  count_some (suc n) e = omega arith

  -- on some axis the whole trace's box is apart
  apart_explains : (k : ℕ) → First (apart_at (bounds_of l count) grown) 0 3 k → Explains l count grown (WholeApart k)
  apart_explains k f =
      record {
        holds = (f.below, f.holds, λ j h. f.before j (omega arith) h);
        first = first;
      }
    where
      first : (other : Reason) → Holds l count grown other → 1 ≤ place_of other
      first (Segment i) h = absurd (unlike (apart_axis (bounds_of l count) grown k f.below f.holds) h.0.whole)
      first (WholeApart j) h = omega arith
      first RunsApart h = omega arith
      first (NoneMet n) h = omega arith

  -- on none
  module _ (f : (k : ℕ) → 0 ≤ k → k < 3 → apart_at (bounds_of l count) grown k ≡ false) where
    met_explains : (i : ℕ) → First (met_at l count grown) 0 (count - 1) i → Explains l count grown (Segment i)
    met_explains i m =
        record {
          holds = (met_counts (no_axis (bounds_of l count) grown f) i m.below m.holds, λ j h c. unlike (counts_met j c) (m.before j (omega arith) h));
          first = λ other h. omega arith;
        }

    -- and no segment meets the box
    module _ (m : (j : ℕ) → 0 ≤ j → j < count - 1 → met_at l count grown j ≡ false) where
      -- so the two reasons named first don't hold
      later : (other : Reason) → Holds l count grown other → 2 ≤ place_of other
      later (Segment i) h = let c = h.0.segment in absurd (unlike (counts_met i h.0) (m i (omega arith) (omega arith)))
      later (WholeApart k) h = absurd (unlike h.1 (f k (omega arith) h.0))
      later RunsApart h = omega arith
      later (NoneMet n) h = omega arith

      unmet_explains : (n : ℕ) → n ≡ near_segments l count grown → Explains l count grown (unmet_reason n)
      unmet_explains zero e =
          record {
            holds = none_near (sym e);
            first = later;
          }
      unmet_explains (suc n) e =
          record {
            holds = (e, λ i h k. and_left_false i k (m i (omega arith) (omega arith)));
            first = first;
          }
        where
          and_left_false : (i : ℕ) → run_near l count grown i ≡ true → met_at l count grown i ≡ false → segment_meets l grown i ≡ false
          and_left_false i k e = rw k at e

          far : ((r : ℕ) → r < runs_of count → boxes_apart (run_bounds l count r) grown ≡ true) → (j : ℕ) → 0 ≤ j → j < count - 1 → run_near l count grown j ≡ false
          far h j a b = ap not (h (j / run_length) (omega arith))

          first : (other : Reason) → Holds l count grown other → 3 ≤ place_of other
          first (Segment i) h = let p = later (Segment i) h in absurd (omega (arith, p))
          first (WholeApart k) h = let p = later (WholeApart k) h in absurd (omega (arith, p))
          first RunsApart h = let c = count_none (run_near l count grown) 0 (count - 1) (omega arith) (far h) in absurd (omega (arith, c, e))
          first (NoneMet j) h = omega arith

  -- the answer's reason is the one that the rule gives
  pub reason_explains : Explains l count grown (trace_reason l count grown)
  unfolding trace_reason runs_reason first_apart
  reason_explains = whole (first_apart (bounds_of l count) grown) (first_finds (apart_at (bounds_of l count) grown) 0 3)
    where
      runs : ((k : ℕ) → 0 ≤ k → k < 3 → apart_at (bounds_of l count) grown k ≡ false) → (o : Option ℕ) → Finds (met_at l count grown) 0 (count - 1) o
          → Explains l count grown (runs_reason_of o (near_segments l count grown))
      runs f (Some i) m = met_explains f i m
      runs f None m = unmet_explains f m (near_segments l count grown) refl

      whole : (o : Option ℕ) → Finds (apart_at (bounds_of l count) grown) 0 3 o
          → Explains l count grown (whole_reason o (runs_reason_of (first_met l count grown) (near_segments l count grown)))
      whole (Some k) f = apart_explains k f
      whole None f = runs f (first_met l count grown) (first_finds (met_at l count grown) 0 (count - 1))

  -- where a segment counts, the rule names one
  counted_named : (i : ℕ) → Counts l count grown i → (q : Reason) → Explains l count grown q → (k : ℕ) × (q ≡ Segment k)
  counted_named i c (Segment k) e = (k, refl)
  counted_named i c (WholeApart k) e = absurd (unlike (apart_axis (bounds_of l count) grown k e.holds.0 e.holds.1) c.whole)
  counted_named i c RunsApart e = let s = c.segment in absurd (unlike (e.holds (i / run_length) (omega arith)) c.run)
  counted_named i c (NoneMet n) e = absurd (unlike c.meets (e.holds.1 i c.segment (ap not c.run)))

  -- what a reason names lies within the trace
  pub value_below : (q : Reason) → 3 < count → Holds l count grown q → value_of q < count
  value_below (Segment i) h e = let s = e.0.segment in omega (arith, s)
  value_below (WholeApart k) h e = let s = e.0 in omega (arith, s)
  value_below RunsApart h e = omega arith
  value_below (NoneMet n) h e = let c = count_most (run_near l count grown) 0 (count - 1) (omega arith) in omega (arith, c, e.0)

-- the same refusal, whatever is answered
same_refusal : {A B : Type 0} (v : Verdict) (x : A) (y : B) → refusal_of (answer_of v x) ≡ refusal_of (answer_of v y)
same_refusal (Ok u) x y = refl
same_refusal (Err r) x y = refl

-- where it is no refusal, the tests passed
abbrev answer_or : {A : Type 0} → A → Result A Refusal → A
answer_or d (Ok x) = x
answer_or d (Err r) = d

passed_answer : {A : Type 0} (v : Verdict) {x y : A} → answer_of v x ≡ Ok y → (v ≡ Ok tt) × (x ≡ y)
passed_answer (Ok u) {x} e = (refl, ap (answer_or x) e)
passed_answer (Err r) e = let h = number_positive r in let z : number_of r ≡ 0 = ap refusal_of e in absurd (omega (arith, h, z))

module _ (tol : Tolerance) (l : List Float) (count : ℕ) (b : Aabb) where
  -- it is refused exactly where the crossing is, with the same number
  pub refused_alike : refusal_of (explain_of tol l count b) ≡ refusal_of (crossing_of tol l count b)
  unfolding explain_of crossing_of
  refused_alike = same_refusal (crossing_fitness tol l count b) _ _

  -- The rule of 02, for every input: a reason is the answer exactly when nothing refuses and the rule gives it
  pub explained_when : (q : Reason) → (explain_of tol l count b ≡ Ok q) ↔ (Fit tol l count b × Explains l count (grown_of b tol.confusion) q)
  unfolding explain_of
  explained_when q = (there, back)
    where
      there : explain_of tol l count b ≡ Ok q → Fit tol l count b × Explains l count (grown_of b tol.confusion) q
      there e =
          let p = passed_answer (crossing_fitness tol l count b) e in
          (tests_fit tol l count b p.0, subst (Explains l count (grown_of b tol.confusion)) p.1 (reason_explains l count (grown_of b tol.confusion)))

      back : Fit tol l count b × Explains l count (grown_of b tol.confusion) q → explain_of tol l count b ≡ Ok q
      back p =
          rw (fit_tests tol l count b p.0)
          (ap Ok (explains_same l count (grown_of b tol.confusion) (trace_reason l count (grown_of b tol.confusion)) q (reason_explains l count (grown_of b tol.confusion)) p.1))

  -- a segment is named exactly where the crossing says yes
  pub named_crossed : (i : ℕ) → explain_of tol l count b ≡ Ok (Segment i) → crossed_of (crossing_of tol l count b) ≡ true
  named_crossed i e = let p = (explained_when (Segment i)).0 e in (crossed_when tol l count b).1 (p.0, (i, p.1.holds.0))

  pub crossed_named : crossed_of (crossing_of tol l count b) ≡ true → (i : ℕ) × (explain_of tol l count b ≡ Ok (Segment i))
  crossed_named e =
      let p = (crossed_when tol l count b).0 e in
      let g = grown_of b tol.confusion in
      let k = counted_named l count g p.1.0 p.1.1 (trace_reason l count g) (reason_explains l count g) in
      (k.0, (explained_when (Segment k.0)).1 (p.0, subst (Explains l count g) k.1 (reason_explains l count g)))

  -- what a reason names lies within the trace
  pub named_below : (q : Reason) → explain_of tol l count b ≡ Ok q → (value_of q < count) × (count ≤ most_points)
  named_below q e =
      let p = (explained_when q).0 e in
      let n = p.0.least in
      (value_below l count (grown_of b tol.confusion) q (omega (arith, n)) p.1.holds, p.0.most)

  pub named_some : (n : ℕ) → explain_of tol l count b ≡ Ok (NoneMet n) → 1 ≤ n
  named_some n e = count_some l count (grown_of b tol.confusion) n ((explained_when (NoneMet n)).0 e).1

  -- the two points of a segment that is named are among those lent
  pub segment_held : (i : ℕ) → explain_of tol l count b ≡ Ok (Segment i) → (width * (i + 2) ≤ length l) × (i < most_points)
  segment_held i e =
      let p = (explained_when (Segment i)).0 e in
      let s = p.1.holds.0.segment in
      let h = p.0.lent in
      let m = p.0.most in
      (omega (arith, s, h), omega (arith, s, m))

  -- the stretch has the numbers of the two points of the segment that is named
  pub stretch_points : (i : ℕ) → explain_of tol l count b ≡ Ok (Segment i) → stretch_of tol l count b ≡ numbers_of (row_at l i) ++ numbers_of (row_at l (i + 1))
  unfolding stretch_of
  stretch_points i e = ap (λ (x : Explained). stretch_at l (segment_of x)) e ∙ rows_part l i (segment_held i e).0

  -- and none where the crossing does not say yes
  pub stretch_empty : crossed_of (crossing_of tol l count b) ≡ false → stretch_of tol l count b ≡ []
  unfolding stretch_of
  stretch_empty clear = go (explain_of tol l count b) refl
    where
      go : (x : Explained) → explain_of tol l count b ≡ x → stretch_at l (segment_of x) ≡ []
      go (Ok (Segment i)) e = absurd (unlike (named_crossed i e) clear)
      go (Ok (WholeApart axis)) e = refl
      go (Ok RunsApart) e = refl
      go (Ok (NoneMet n)) e = refl
      go (Err r) e = refl
