-- How the search over the runs goes on, run by run, as the definition's does segment by segment.
use Rattle.std.specs.Prelude.{Option, Some, None}
use mathlib.Core.Path.{◌≡◌, refl, sym, ap, ap₂, subst, ◌∙◌}
use mathlib.Core.Bool.{Bool, true, false, not, ◌&&◌}
use mathlib.Core.List.{List}
use Prim.Native.Nat.{ℕ, ◌+◌, ◌-◌, ◌*◌, ◌/◌, ◌%◌, ◌≤◌, ◌<◌}
use native.Mathlib.Omega.{arith}
use lib.ListN.{length, take}
use lib.Dec.{ltb}
use lib.Ieee.{Float}
use borrow.Author.Tests.{ltb-true, ltb-false}
use Rattle.loops.specs.Loop.{ranged}
use Rattle.loops.specs.First.{first_in, counted}
use Rattle.loops.proofs.Loop.{ranged_end}
use Rattle.loops.proofs.Any.{cases}
use Rattle.loops.proofs.Choice.{and_left}
use Rattle.loops.proofs.First.{Finds, first_finds, first_is, first_none, first_past, first_same, count_past, count_all, count_same}
use Rattle.groups.specs.Groups.{width, from_group}
use Rattle.boxes.specs.declared.boxtree.Aabb.{Aabb}
use Rattle.boxes.specs.declared.explain.Reason.TheVariants.{Segment}
use Rattle.boxes.specs.Bounds.{boxes_apart, bounds_of}
use Rattle.boxes.specs.Counts.{run_bounds}
use Rattle.boxes.specs.Crosses.{run_length, run_start, run_points, run_from, segment_meets, first_segment}
use Rattle.boxes.specs.Explain.{run_near, met_at, first_met, near_segments, unmet_reason, runs_reason_of, runs_reason}
use Rattle.groups.proofs.Rows.{count_taken}
use Rattle.boxes.proofs.Listed.{segment_front, run_bounds_front, run_least, run_count, run_bounded, run_segment}

-- Before the run from point `first` on: what is left of both searches, and that the segments counted lie before.
pub record Searching (l : List Float) (b : Aabb) (first near : ℕ) : Type 0 where
  pub left : first_in (met_at l (length l / width) b) first (length l / width - 1) ≡ first_met l (length l / width) b
  pub count : ranged (counted (run_near l (length l / width) b)) first (length l / width - 1) near ≡ near_segments l (length l / width) b
  pub whole_runs : first % run_length ≡ 0
  pub before : near ≤ first

pub searching_start : (l : List Float) (b : Aabb) → Searching l b 0 0
searching_start l b = record { left = refl; count = refl; whole_runs = refl; before = omega arith }

-- the answer after the last run
pub searching_end : (l : List Float) (b : Aabb) {first near : ℕ} → length l / width - 1 ≤ first → Searching l b first near → unmet_reason near ≡ runs_reason l (length l / width) b
unfolding runs_reason
searching_end l b {first} {near} h s =
    let n = length l / width in
    let f : first_met l n b ≡ None = sym s.left ∙ first_none (met_at l n b) first (n - 1) (λ j k m. absurd (omega arith)) in
    let c : near_segments l n b ≡ near = sym s.count ∙ ranged_end (counted (run_near l n b)) first (n - 1) near h in
    rw (f, c)

-- what the functions say of the run that they are handed
module _ (l : List Float) (b : Aabb) (first : ℕ) {run : List Float} (e : run ≡ run_from l first) where
  pub apart_handed : {bounds : Aabb} {r : Bool} → bounds ≡ bounds_of run (length run / width) → r ≡ boxes_apart bounds b
      → r ≡ boxes_apart (bounds_of (run_from l first) (length (run_from l first) / width)) b
  apart_handed f g = g ∙ ap (λ (x : Aabb). boxes_apart x b) (f ∙ ap (λ (p : List Float). bounds_of p (length p / width)) e)

  pub segment_handed : {o : Option ℕ} {s : Option ℕ} → s ≡ first_segment run (length run / width) b → s ≡ o
      → first_segment (run_from l first) (length (run_from l first) / width) b ≡ o
  segment_handed f g = ap (λ (p : List Float). first_segment p (length p / width) b) (sym e) ∙ sym f ∙ g

-- one run, whose box is apart or not
module _ (l : List Float) (b : Aabb) {first near : ℕ} (s : Searching l b first near) (h : first < length l / width - 1) {r : Bool} where
  module _ (e : r ≡ boxes_apart (bounds_of (run_from l first) (length (run_from l first) / width)) b) where
    -- its points are two at least, and end with the run or with the trace
    size : (1 < run_points (length l / width) first) × (first + (run_points (length l / width) first - 1) ≤ length l / width - 1)
        × (run_points (length l / width) first ≤ run_length + 1)
        × ((j : ℕ) → first + (run_points (length l / width) first - 1) ≤ j → j < first + run_length → j < length l / width - 1 → ⊥)
    size =
        let z = run_least (length l / width - first) (omega arith) in
        let p = run_points (length l / width) first in
        let q : p < run_length + 1 → p ≡ length l / width - first = z.3 in
        cases (ltb p (run_length + 1))
        (λ c. let k = q (ltb-true p (run_length + 1) c) in (omega arith, omega arith, omega arith, λ j a b c. omega arith))
        (λ c. let k = ltb-false p (run_length + 1) c in (omega arith, omega arith, omega arith, λ j a b c. omega arith))

    bounds : bounds_of (run_from l first) (length (run_from l first) / width) ≡ run_bounds l (length l / width) (first / run_length)
    bounds =
        let w = s.whole_runs in
        let start : first ≡ run_start (first / run_length) = omega arith in
        ap (bounds_of (run_from l first)) (run_count l first (omega arith)) ∙ run_bounded l first (omega arith)
        ∙ ap (λ (k : ℕ). bounds_of (from_group width k l) (run_points (length l / width) k)) start

    near_at : (j : ℕ) → first ≤ j → j < first + run_length → run_near l (length l / width) b j ≡ not r
    near_at j a c =
        let w = s.whole_runs in
        ap (λ (q : ℕ). not (boxes_apart (run_bounds l (length l / width) q) b)) (let q : j / run_length ≡ first / run_length = omega arith in q)
        ∙ ap not (ap (λ (x : Aabb). boxes_apart x b) (sym bounds) ∙ sym e)

    unmet_on : ((j : ℕ) → first ≤ j → j < first + run_length → j < length l / width - 1 → met_at l (length l / width) b j ≡ false)
        → first_in (met_at l (length l / width) b) (first + run_length) (length l / width - 1) ≡ first_met l (length l / width) b
    unmet_on f = first_past (met_at l (length l / width) b) first (first + run_length) (length l / width - 1) (omega arith) f ∙ s.left

    -- apart: none of its segments counts, and none is counted
    pub searching_apart : r ≡ true → Searching l b (first + run_length) near
    searching_apart t =
        let w = s.whole_runs in
        let p = s.before in
        record {
          left = unmet_on (λ j a c d. let e = near_at j a c ∙ ap not t in sym (and_left (segment_meets l b j) refl e) ∙ e);
          count =
              count_past (run_near l (length l / width) b) first (first + run_length) (length l / width - 1) near (omega arith)
              (λ j a c d. near_at j a c ∙ ap not t) ∙ s.count;
          whole_runs = omega arith;
          before = omega arith;
        }

    -- not apart: what the search of its own segments says of the trace's
    module _ (t : r ≡ false) where
      met_here : (j : ℕ) → j < run_points (length l / width) first - 1
          → met_at l (length l / width) b (first + j) ≡ segment_meets (run_from l first) b j
      met_here j a =
          let z = size in
          rw (near_at (first + j) (omega arith) (omega arith), t) (sym (run_segment l first (omega arith) b j a))

      found : Finds (segment_meets (run_from l first) b) 0 (run_points (length l / width) first - 1) (first_segment (run_from l first) (length (run_from l first) / width) b)
      unfolding first_segment
      found =
          subst (λ (k : ℕ). Finds (segment_meets (run_from l first) b) 0 (run_points (length l / width) first - 1) (first_in (segment_meets (run_from l first) b) 0 (k - 1)))
          (sym (run_count l first (omega arith))) (first_finds (segment_meets (run_from l first) b) 0 (run_points (length l / width) first - 1))

      -- segment k of the run is the trace's first that counts
      pub searching_met : {k : ℕ} → first_segment (run_from l first) (length (run_from l first) / width) b ≡ Some k
          → Segment (first + k) ≡ runs_reason l (length l / width) b
      unfolding runs_reason
      searching_met {k} m =
          let z = size in
          let g = subst (Finds (segment_meets (run_from l first) b) 0 (run_points (length l / width) first - 1)) m found in
          let u = g.below in
          let i : first_met l (length l / width) b ≡ Some (first + k) =
          sym s.left
          ∙ first_is (met_at l (length l / width) b) first (length l / width - 1)
          (record {
            from = omega arith;
            below = omega arith;
            holds = met_here k u ∙ g.holds;
            before = λ j a c.
                let d : first + (j - first) ≡ j = omega arith in
                ap (met_at l (length l / width) b) (sym d) ∙ met_here (j - first) (omega arith) ∙ g.before (j - first) (omega arith) (omega arith);
          })
          in rw i

      pub met_below : {k : ℕ} → first_segment (run_from l first) (length (run_from l first) / width) b ≡ Some k → first + k < length l / width - 1
      met_below {k} m =
          let z = size in
          let u = (subst (Finds (segment_meets (run_from l first) b) 0 (run_points (length l / width) first - 1)) m found).below in
          omega arith

      -- none of them meets the box, and all are counted
      pub searching_missed : first_segment (run_from l first) (length (run_from l first) / width) b ≡ None
          → Searching l b (first + run_length) (near + (length (run_from l first) / width - 1))
      searching_missed m =
          let z = size in
          let g = subst (Finds (segment_meets (run_from l first) b) 0 (run_points (length l / width) first - 1)) m found in
          let w = s.whole_runs in
          let p = s.before in
          let many = run_count l first (omega arith) in
          let end = first + (run_points (length l / width) first - 1) in
          record {
            left =
                unmet_on
                (λ j a c d.
                cases (ltb j end)
                (λ q.
                let v = ltb-true j end q in
                let x : first + (j - first) ≡ j = omega arith in
                ap (met_at l (length l / width) b) (sym x) ∙ met_here (j - first) (omega arith) ∙ g (j - first) (omega arith) (omega arith))
                (λ q. absurd (z.3 j (ltb-false j end q) c d)));
            count =
                ap (ranged (counted (run_near l (length l / width) b)) (first + run_length) (length l / width - 1))
                (let q : near + (length (run_from l first) / width - 1) ≡ near + (end - first) = omega arith in q)
                ∙ count_past (run_near l (length l / width) b) end (first + run_length) (length l / width - 1) (near + (end - first)) (omega arith)
                (λ j a c d. absurd (z.3 j a c d))
                ∙ count_all (run_near l (length l / width) b) first end (length l / width - 1) near (omega arith) z.1
                (λ j a c. near_at j a (omega arith) ∙ ap not t)
                ∙ s.count;
            whole_runs = omega arith;
            before = omega arith;
          }

-- a trace cut to its points
pub reason_taken : (l : List Float) (n : ℕ) (b : Aabb) → width * n ≤ length l → runs_reason (take (width * n) l) (length (take (width * n) l) / width) b ≡ runs_reason l n b
unfolding runs_reason
reason_taken l n b h =
    let near : (j : ℕ) → 0 ≤ j → j < n - 1 → run_near (take (width * n) l) n b j ≡ run_near l n b j =
    λ j z k. ap (λ (x : Aabb). not (boxes_apart x b)) (run_bounds_front l n (j / run_length) (omega arith)) in
    ap (λ (k : ℕ). runs_reason_of (first_met (take (width * n) l) k b) (near_segments (take (width * n) l) k b)) (count_taken l n h)
    ∙ ap₂ runs_reason_of
    (first_same (met_at (take (width * n) l) n b) (met_at l n b) 0 (n - 1)
    (λ j z k. ap₂ ◌&&◌ (near j z k) (segment_front l n (width * n) (omega arith) b j k)))
    (count_same (run_near (take (width * n) l) n b) (run_near l n b) 0 (n - 1) near)
