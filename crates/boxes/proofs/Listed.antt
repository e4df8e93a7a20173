-- What the definitions compute, read off the list of points: so the chains compute it, and a part of a trace that has a run's points is as good as
-- the trace.
use mathlib.Core.Path.{◌≡◌, refl, sym, ap, ap₂, ◌∙◌}
use mathlib.Core.Bool.{Bool, true, false, not}
use mathlib.Core.List.{List}
use Prim.Native.Nat.{ℕ, ◌+◌, ◌-◌, ◌*◌, ◌/◌, ◌%◌, min, ◌≤◌, ◌<◌}
use native.Mathlib.Nat.{zero-add}
use native.Mathlib.Omega.{arith}
use lib.ListN.{length, take, drop, get_or, length-drop, length-take}
use lib.Dec.{ltb}
use lib.Seq.{get_or-drop}
use borrow.Author.Tests.{ltb-true, ltb-false}
use lib.Ieee.{Float}
use Rattle.std.specs.List.{list_all, fold, zip, position_from}
use Rattle.std.proofs.lemmas.List.{drop-take}
use Rattle.std.proofs.lemmas.Slice.Zip.{length-zip, get_or-zip}
use Rattle.loops.specs.Loop.{pick, ranged}
use Rattle.loops.specs.Any.{any_in}
use Rattle.loops.specs.First.{first_in}
use Rattle.loops.proofs.Any.{cases}
use Rattle.groups.specs.Groups.{width, from_group}
use Rattle.groups.specs.Row.{point_at}
use Rattle.groups.proofs.Items.{any_items, any_same, position_items, not_all, fold_items}
use Rattle.groups.proofs.Rows.{points_of, length_points, point_among, points_front, point_from_lem, count_taken}
use Rattle.geometry.specs.declared.point.Point3D.{Point3D}
use Rattle.geometry.specs.Point.{point_fit}
use Rattle.boxes.specs.declared.boxtree.Aabb.{Aabb}
use Rattle.boxes.specs.Bounds.{point_box, cover_of, cover_at, bounds_of}
use Rattle.boxes.specs.Segment.{segment_meets_box}
use Rattle.boxes.specs.Counts.{run_bounds}
use Rattle.boxes.specs.Crosses.{segment_meets, first_segment, some_segment, run_crosses, run_from, run_length, run_start, run_points, run_at, runs_of, some_run}
use Rattle.boxes.specs.Crossing.{unfit_at, some_unfit}

-- a run has a point, no more than are left, and 17 at most; where it has not 17 it has all that are left
pub run_least : (n : ℕ) → 0 < n
    → (0 < pick (ltb (run_length + 1) n) (run_length + 1) n) × (pick (ltb (run_length + 1) n) (run_length + 1) n ≤ n)
    × (pick (ltb (run_length + 1) n) (run_length + 1) n ≤ run_length + 1)
    × (pick (ltb (run_length + 1) n) (run_length + 1) n < run_length + 1 → pick (ltb (run_length + 1) n) (run_length + 1) n ≡ n)
run_least n h = go (ltb (run_length + 1) n) refl
  where
    go : (t : Bool) → ltb (run_length + 1) n ≡ t
        → (0 < pick t (run_length + 1) n) × (pick t (run_length + 1) n ≤ n) × (pick t (run_length + 1) n ≤ run_length + 1)
        × (pick t (run_length + 1) n < run_length + 1 → pick t (run_length + 1) n ≡ n)
    go true e = let g = ltb-true (run_length + 1) n e in (omega arith, omega arith, omega arith, λ l. absurd (omega arith))
    go false e = let g = ltb-false (run_length + 1) n e in (h, omega arith, omega arith, λ l. refl)

pub unfit_listed : (l : List Float) (n : ℕ) → not (list_all point_fit (points_of l n)) ≡ some_unfit l n
unfolding some_unfit
unfit_listed l n =
    not_all point_fit (points_of l n)
    ∙ any_items (λ (p : Point3D). not (point_fit p)) (unfit_at l) (points_of l n) 0
    (λ i d h. ap (λ (p : Point3D). not (point_fit p)) (point_among l n i d (let e = length_points l n in omega arith)) ∙ sym (ap (unfit_at l) (zero-add i)))
    ∙ ap (any_in (unfit_at l) 0) (let e = length_points l n in omega arith)

pub bounds_listed : (l : List Float) (n : ℕ) → 0 < n → fold cover_of (point_box (point_at l 0)) (drop 1 (points_of l n)) ≡ bounds_of l n
unfolding bounds_of
bounds_listed l n h =
    let many = length_points l n in
    let left = length-drop 1 (points_of l n) in
    fold_items cover_of (cover_at l) (drop 1 (points_of l n)) 1 (point_box (point_at l 0))
    (λ i d t k. ap (cover_of t) (get_or-drop 1 (points_of l n) i d ∙ point_among l n (1 + i) d (omega arith)))
    ∙ ap (λ (k : ℕ). ranged (cover_at l) 1 k (point_box (point_at l 0))) (omega arith)

pub segments_listed : (l : List Float) (n : ℕ) (b : Aabb)
    → position_from (λ (s : Point3D × Point3D). segment_meets_box s.0 s.1 b) 0 (zip (points_of l n) (drop 1 (points_of l n))) ≡ first_segment l n b
unfolding first_segment
segments_listed l n b =
    let ends = drop 1 (points_of l n) in
    let many = length_points l n in
    let left = length-drop 1 (points_of l n) in
    let pairs = length-zip (points_of l n) ends in
    position_items (λ (s : Point3D × Point3D). segment_meets_box s.0 s.1 b) (segment_meets l b) (zip (points_of l n) ends) 0
    (λ i d k.
    let e : 1 + i ≡ i + 1 = omega arith in
    ap (λ (s : Point3D × Point3D). segment_meets_box s.0 s.1 b) (get_or-zip (points_of l n) ends i d (omega arith) (omega arith))
    ∙ ap₂ (λ (p q : Point3D). segment_meets_box p q b) (point_among l n i d.0 (omega arith))
    (get_or-drop 1 (points_of l n) i d.1 ∙ ap (λ (j : ℕ). get_or (points_of l n) j d.1) e ∙ point_among l n (i + 1) d.1 (omega arith))
    ∙ sym (ap (segment_meets l b) (zero-add i)))
    ∙ ap (first_in (segment_meets l b) 0) (omega arith)

-- a part of a trace that has its first n points, or those of a run, is as good as the whole
module _ (l : List Float) (n m : ℕ) (h : width * n ≤ m) where
  point_front : (i : ℕ) → i < n → point_at (take m l) i ≡ point_at l i
  point_front i k =
      let d = point_at l i in
      sym (point_among (take m l) n i d k) ∙ ap (λ (ps : List Point3D). get_or ps i d) (points_front l n m h) ∙ point_among l n i d k

  bounds_front : 0 < n → bounds_of (take m l) n ≡ bounds_of l n
  bounds_front k =
      sym (bounds_listed (take m l) n k)
      ∙ ap₂ (λ (p : Point3D) (ps : List Point3D). fold cover_of (point_box p) (drop 1 ps)) (point_front 0 k) (points_front l n m h)
      ∙ bounds_listed l n k

  pub segment_front : (b : Aabb) (i : ℕ) → i < n - 1 → segment_meets (take m l) b i ≡ segment_meets l b i
  segment_front b i k = ap₂ (λ (p q : Point3D). segment_meets_box p q b) (point_front i (omega arith)) (point_front (i + 1) (omega arith))

  run_front : (b : Aabb) → 0 < n → run_crosses (take m l) n b ≡ run_crosses l n b
  unfolding run_crosses some_segment
  run_front b k = rw (bounds_front k, any_same (segment_meets (take m l) b) (segment_meets l b) 0 (n - 1) (λ i z q. segment_front b i q))

-- of a trace cut to its points, the part from a run's first point on has that run's points
run_cut : (l : List Float) (n r : ℕ) → run_start r < n → from_group width (run_start r) (take (width * n) l) ≡ take (width * (n - run_start r)) (from_group width (run_start r) l)
run_cut l n r h =
    let first = run_start r in
    let e : width * first + width * (n - first) ≡ width * n = omega arith in
    ap (λ (j : ℕ). drop (width * first) (take j l)) (sym e) ∙ drop-take (width * first) (width * (n - first)) l

pub run_bounds_front : (l : List Float) (n r : ℕ) → run_start r < n → run_bounds (take (width * n) l) n r ≡ run_bounds l n r
run_bounds_front l n r h =
    let least = run_least (n - run_start r) (omega arith) in
    ap (λ (part : List Float). bounds_of part (run_points n (run_start r))) (run_cut l n r h)
    ∙ bounds_front (from_group width (run_start r) l) (run_points n (run_start r)) (width * (n - run_start r)) (omega arith) least.0

runs_front : (l : List Float) (n : ℕ) (b : Aabb) → some_run (take (width * n) l) n b ≡ some_run l n b
unfolding some_run
runs_front l n b =
    any_same (run_at (take (width * n) l) n b) (run_at l n b) 0 (runs_of n)
    (λ r z q.
    let least = run_least (n - run_start r) (omega arith) in
    ap (λ (part : List Float). run_crosses part (run_points n (run_start r)) b) (run_cut l n r (omega arith))
    ∙ run_front (from_group width (run_start r) l) (run_points n (run_start r)) (width * (n - run_start r)) (omega arith) b least.0)

-- a trace cut to its points
pub bounds_taken : (l : List Float) (n : ℕ) → width * n ≤ length l → 0 < n → bounds_of (take (width * n) l) (length (take (width * n) l) / width) ≡ bounds_of l n
bounds_taken l n h k = ap (bounds_of (take (width * n) l)) (count_taken l n h) ∙ bounds_front l n (width * n) (omega arith) k

pub runs_taken : (l : List Float) (n : ℕ) (b : Aabb) → width * n ≤ length l → some_run (take (width * n) l) (length (take (width * n) l) / width) b ≡ some_run l n b
runs_taken l n b h = ap (λ (k : ℕ). some_run (take (width * n) l) k b) (count_taken l n h) ∙ runs_front l n b

-- segment k of a part is segment f + k of the trace
pub segment_part : (l : List Float) (g : Aabb) (f k : ℕ) → segment_meets (from_group width f l) g k ≡ segment_meets l g (f + k)
segment_part l g f k =
    let e : f + (k + 1) ≡ f + k + 1 = omega arith in
    rw (point_from_lem l f k, point_from_lem l f (k + 1), e)

-- how many points the part has that is handed on, of one that has `left` numbers from the run's first point on
run_size : (left n : ℕ) → left / width ≡ n → min left (width * (run_length + 1)) / width ≡ pick (ltb (run_length + 1) n) (run_length + 1) n
run_size left n e = go (ltb (run_length + 1) n) refl
  where
    go : (t : Bool) → ltb (run_length + 1) n ≡ t → min left (width * (run_length + 1)) / width ≡ pick t (run_length + 1) n
    go true h = let k = ltb-true (run_length + 1) n h in omega arith
    go false h = let k = ltb-false (run_length + 1) n h in omega arith

-- what the run from point `first` on has of the trace: its points, so its box and its segments
module _ (l : List Float) (first : ℕ) (h : first < length l / width) where
  abbrev rest : List Float
  rest = from_group width first l

  abbrev most : ℕ
  most = width * (run_length + 1)

  pub run_count : length (run_from l first) / width ≡ run_points (length l / width) first
  unfolding run_from
  run_count =
      let left = length-drop (width * first) l in
      let turned : min most (length rest) ≡ min (length rest) most = omega arith in
      ap (λ (k : ℕ). k / width) (length-take most rest ∙ turned) ∙ run_size (length rest) (length l / width - first) (omega arith)

  run_held : width * run_points (length l / width) first ≤ most
  run_held = let s = run_least (length l / width - first) (omega arith) in omega arith

  pub run_bounded : bounds_of (run_from l first) (run_points (length l / width) first) ≡ bounds_of rest (run_points (length l / width) first)
  unfolding run_from
  run_bounded = bounds_front rest (run_points (length l / width) first) most run_held (run_least (length l / width - first) (omega arith)).0

  pub run_segment : (b : Aabb) (k : ℕ) → k < run_points (length l / width) first - 1 → segment_meets (run_from l first) b k ≡ segment_meets l b (first + k)
  unfolding run_from
  run_segment b k q = segment_front rest (run_points (length l / width) first) most run_held b k q ∙ segment_part l b first k

-- what the functions are handed has two points at least, and ends within the trace
pub points_handed : (l : List Float) (first : ℕ) {run : List Float} → run ≡ run_from l first → first < length l / width - 1
    → (1 < length run / width) × (first + (length run / width - 1) ≤ length l / width - 1)
points_handed l first e h =
    let z = run_least (length l / width - first) (omega arith) in
    let p = run_points (length l / width) first in
    let q : p < run_length + 1 → p ≡ length l / width - first = z.3 in
    let k = ap (λ (r : List Float). length r / width) e ∙ run_count l first (omega arith) in
    cases (ltb p (run_length + 1)) (λ c. let m = q (ltb-true p (run_length + 1) c) in (omega (arith, k), omega (arith, k)))
    (λ c. let m = ltb-false p (run_length + 1) c in (omega (arith, k), omega (arith, k)))

-- it crosses where the run does
pub run_handed : (l : List Float) (first : ℕ) (b : Aabb) {s : Bool} → first % run_length ≡ 0 → first < length l / width
    → s ≡ run_crosses (run_from l first) (length (run_from l first) / width) b → run_at l (length l / width) b (first / run_length) ≡ s
unfolding run_from
run_handed l first b {s} er h es =
    let n = length l / width in
    let start : first ≡ run_start (first / run_length) = omega arith in
    let least = run_least (n - first) (omega arith) in
    sym (
    es
    ∙ ap (λ (k : ℕ). run_crosses (run_from l first) k b) (run_count l first h)
    ∙ run_front (from_group width first l) (run_points n first) (width * (run_length + 1)) (run_held l first h) b least.0
    ∙ ap (λ (k : ℕ). run_crosses (drop (width * k) l) (run_points n k) b) start
    )
