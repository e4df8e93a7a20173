-- The check's answer is passed exactly when `Passes` holds.
use Rattle.std.specs.Prelude.{Option, Ok, Err}
use mathlib.Core.Path.{◌≡◌, refl, sym, ap, ◌∙◌, subst}
use mathlib.Core.Bool.{true, false, ◌&&◌}
use mathlib.Core.List.{List}
use Prim.Native.Nat.{ℕ, zero, suc, ◌+◌, ◌-◌, ◌≤◌, ◌<◌}
use native.Mathlib.Omega.{arith}
use lib.Dec.{T, eqb, ltb, leb}
use lib.Ieee.{Float}
use lib.Ieee.Bits.{is_true}
use lib.Ieee.Fits.{and_l, and_r, and_i}
use lib.Ieee.Scale.{finite}
use denote.Floats.{passes}
use borrow.Author.Tests.{ltb-true, leb-true, lt-ltb, le-leb, eqb-true, eqb-false, eq-eqb, ne_eqb}
use Rattle.loops.specs.Loop.{Flow, on, searched}
use Rattle.loops.proofs.Any.{cases}
use Rattle.loops.proofs.Loop.{searched_out, searched_end, searched_step}
use Rattle.number.specs.Operators.{◌≤?◌}
use Rattle.number.proofs.Binary64.{Binary64, AllFit}
use Rattle.groups.specs.declared.row.Row.{Row}
use Rattle.groups.specs.Groups.{width, least_points, most_points, count_fits, holds_of}
use Rattle.groups.specs.Row.{numbers_of, point_in, row_of}
use Rattle.groups.proofs.Groups.{both, holds_length, count_fits_lem, fits_count}
use Rattle.refusal.specs.declared.Refusal.TheVariants as refusal
use Rattle.refusal.specs.Verdict.{Verdict}
use Rattle.refusal.proofs.Order.{unpassed, asked_held, first_passed}
use Rattle.geometry.specs.declared.tolerance.Tolerance.{Tolerance}
use Rattle.geometry.specs.Point.{distance_of, longest_chord}
use Rattle.patch.specs.declared.patch.Patch.{Patch}
use Rattle.patch.specs.Located.{point_a, point_b}
use Rattle.patch.specs.Patch.{inside_of}
use Rattle.patch.proofs.Fitness.{pair_passed, passed_pair}
use Rattle.certificate.specs.Passes.{parameters_in, closing_end, ends_at, PointPasses, ClosedAs, claimed_open, forward, backward, Passes}
use Rattle.certificate.specs.Check.{is_own, finite_point, same_point, own_of, chord_fits, point_tests, point_verdict, stopped, point_body, all_passed, points_verdict, same_row, closing_so, claim_so, check_tests, check_of}
use Rattle.certificate.proofs.Bits.{point_fits, point_equal, equal_point, row_fits, row_equal, equal_row, fresh_fits}

-- ---- one point

module _ (a b : Patch) (tol : Tolerance) (before r : Row) (end : Option ℕ) (i : ℕ) where
  -- the chord to point i: tested unless it is the first point's or the closing one
  abbrev Chord : Type 0
  Chord = 0 < i → ends_at end i ≡ false → T (distance_of (point_in r) (point_in before) ≤? longest_chord)

  chord_tested : chord_fits before r end i ≡ true → Chord
  unfolding chord_fits
  chord_tested e h n =
      let w : chord_fits before r end i ≡ (distance_of (point_in r) (point_in before) ≤? longest_chord) = rw (ne_eqb i 0 (λ q. omega arith), n) in
      passes _ (sym w ∙ e)

  chord_fits_lem : Chord → chord_fits before r end i ≡ true
  unfolding chord_fits
  chord_fits_lem f =
      cases (eqb i 0) (λ e. rw e)
      (λ e. cases (ends_at end i) (λ n. rw (e, n)) (λ n. rw (e, n) (is_true _ (f (let d = eqb-false i 0 e in omega arith) n))))

  -- A's own point: finite where worked out afresh, and equal to what is stored
  own_of_lem : AllFit (numbers_of r) → T (inside_of a b (parameters_in r)) → T (own_of (point_in r) (point_a a (parameters_in r)))
      → T (distance_of (point_a a (parameters_in r)) (point_b b (parameters_in r)) ≤? tol.confusion) → PointPasses a b tol r
  unfolding own_of finite_point
  own_of_lem d n o g =
      let q = point_a a (parameters_in r) in
      let f = and_l (finite_point q) (same_point (point_in r) q) o in
      let yz = and_r (finite q.x) (finite q.y && finite q.z) f in
      record {
        inside = n;
        finite_x = and_l (finite q.x) (finite q.y && finite q.z) f;
        finite_y = and_l (finite q.y) (finite q.z) yz;
        finite_z = and_r (finite q.y) (finite q.z) yz;
        own = point_equal (point_in r) q (point_fits r d) (fresh_fits a.surface r.u1 r.v1) (and_r (finite_point q) (same_point (point_in r) q) o);
        gap = g;
      }

  own_is : PointPasses a b tol r → T (own_of (point_in r) (point_a a (parameters_in r)))
  unfolding own_of finite_point
  own_is p =
      let q = point_a a (parameters_in r) in
      and_i (finite_point q) (same_point (point_in r) q)
      (and_i (finite q.x) (finite q.y && finite q.z) p.finite_x (and_i (finite q.y) (finite q.z) p.finite_y p.finite_z))
      (equal_point (point_in r) q p.own)

  -- what a passed point says, and what makes it pass
  point_passes : AllFit (numbers_of r) → point_verdict (is_own a) a b tol.confusion before r end i ≡ Ok tt → PointPasses a b tol r × Chord
  unfolding point_verdict
  point_passes d e =
      let x = parameters_in r in
      let s = first_passed (point_tests (is_own a) a b tol.confusion before r end i) e in
      let n = asked_held (inside_of a b x) (refusal.OutsideWindow i) s.0 in
      let o = asked_held (own_of (point_in r) (point_a a x)) (refusal.NotOwnPoint i) s.1.0 in
      let g = asked_held (distance_of (point_a a x) (point_b b x) ≤? tol.confusion) (refusal.Gap i) s.1.1.0 in
      (own_of_lem d (passes _ n) (passes _ o) (passes _ g), chord_tested (asked_held (chord_fits before r end i) (refusal.Chord i) s.1.1.1.0))

  passes_point : PointPasses a b tol r → Chord → point_verdict (is_own a) a b tol.confusion before r end i ≡ Ok tt
  unfolding point_verdict
  passes_point p k =
      let x = parameters_in r in
      rw (is_true (inside_of a b x) p.inside, is_true (own_of (point_in r) (point_a a x)) (own_is p), is_true (distance_of (point_a a x) (point_b b x) ≤? tol.confusion) p.gap, chord_fits_lem k)

-- ---- the search over the points

module _ (a b : Patch) (tol : Tolerance) (rows : ℕ → Row) (count : ℕ) (end : Option ℕ) where
  abbrev from : ℕ → Flow (Unit {0}) Verdict → Verdict
  from i s = searched (point_body (is_own a) a b tol.confusion rows end) all_passed i count s

  abbrev verdict : ℕ → Verdict
  verdict i = point_verdict (is_own a) a b tol.confusion (rows (i - 1)) (rows i) end i

  -- it passes only where each point does
  each_passed : (k i : ℕ) → count - i ≡ k → from i (on tt) ≡ Ok tt → (j : ℕ) → i ≤ j → j < count → verdict j ≡ Ok tt
  each_passed zero i e p j h n = absurd (omega arith)
  each_passed (suc k) i e p j h n = go (verdict i) refl (λ q d. each_passed k (i + 1) (omega arith) q j (omega arith) n)
    where
      -- the search from i on goes on from the verdict of point i
      next : {s : Verdict} → verdict i ≡ s → from (i + 1) (stopped s) ≡ Ok tt
      next q = ap (from (i + 1)) (ap stopped (sym q)) ∙ sym (searched_step _ all_passed i count tt (omega arith)) ∙ p

      go : (s : Verdict) → verdict i ≡ s → (from (i + 1) (on tt) ≡ Ok tt → (i ≡ j → ⊥) → verdict j ≡ Ok tt) → verdict j ≡ Ok tt
      go (Err r) q f = absurd (unpassed (sym (searched_out _ all_passed (i + 1) count (Err r)) ∙ next q))
      go (Ok u) q f = cases (eqb i j) (λ w. subst (λ (m : ℕ). verdict m ≡ Ok tt) (eqb-true i j w) q) (λ w. f (next q) (eqb-false i j w))

  all_passed_lem : (k i : ℕ) → count - i ≡ k → ((j : ℕ) → i ≤ j → j < count → verdict j ≡ Ok tt) → from i (on tt) ≡ Ok tt
  all_passed_lem zero i e f = searched_end _ all_passed i count tt (omega arith)
  all_passed_lem (suc k) i e f =
      searched_step _ all_passed i count tt (omega arith) ∙ ap (from (i + 1)) (ap stopped (f i (omega arith) (omega arith)))
      ∙ all_passed_lem k (i + 1) (omega arith) (λ j h n. f j (omega arith) n)

  points_pass : ((i : ℕ) → i < count → AllFit (numbers_of (rows i))) → points_verdict (is_own a) a b tol.confusion rows count end ≡ Ok tt
      → (i : ℕ) → i < count → PointPasses a b tol (rows i) × Chord a b tol (rows (i - 1)) (rows i) end i
  unfolding points_verdict
  points_pass d e i h = point_passes a b tol (rows (i - 1)) (rows i) end i (d i h) (each_passed count 0 (omega arith) e i (omega arith) h)

  pass_points : ((i : ℕ) → i < count → PointPasses a b tol (rows i)) → ((i : ℕ) → i < count → Chord a b tol (rows (i - 1)) (rows i) end i)
      → points_verdict (is_own a) a b tol.confusion rows count end ≡ Ok tt
  unfolding points_verdict
  pass_points p k = all_passed_lem count 0 (omega arith) (λ j z h. passes_point a b tol (rows (j - 1)) (rows j) end j (p j h) (k j h))

-- ---- the claim

module _ (rows : ℕ → Row) (count start closing : ℕ) where
  closed_of : ((i : ℕ) → i < count → AllFit (numbers_of (rows i))) → start < count → closing_so rows count start closing ≡ true → ClosedAs rows count start closing
  unfolding closing_so
  closed_of d s e = cases (eqb closing 0) (λ w. claimed_open (eqb-true closing 0 w)) (λ w. cases (eqb closing 1) (there w) (back w))
    where
      same : (i j : ℕ) → i < count → j < count → same_row (rows i) (rows j) ≡ true → rows i ≡ rows j
      same i j h k t = row_equal (rows i) (rows j) (d i h) (d j k) (passes _ t)

      there : eqb closing 0 ≡ false → eqb closing 1 ≡ true → ClosedAs rows count start closing
      there w v =
          let q : closing_so rows count start closing ≡ (eqb start 0 && same_row (rows (count - 1)) (rows 0)) = rw (w, v) in
          let t = both (eqb start 0) (same_row (rows (count - 1)) (rows 0)) (sym q ∙ e) in
          forward (eqb-true closing 1 v) (eqb-true start 0 t.0) (same (count - 1) 0 (omega arith) (omega arith) t.1)

      back : eqb closing 0 ≡ false → eqb closing 1 ≡ false → ClosedAs rows count start closing
      back w v =
          let q : closing_so rows count start closing ≡ (eqb closing 2 && (leb 2 start && same_row (rows 0) (rows start))) = rw (w, v) in
          let c = both (eqb closing 2) (leb 2 start && same_row (rows 0) (rows start)) (sym q ∙ e) in
          let t = both (leb 2 start) (same_row (rows 0) (rows start)) c.1 in
          backward (eqb-true closing 2 c.0) (leb-true 2 start t.0) (same 0 start (omega arith) s t.1)

  closed_is : ClosedAs rows count start closing → closing_so rows count start closing ≡ true
  unfolding closing_so
  closed_is (claimed_open c) = rw (eq-eqb closing 0 c)
  closed_is (forward c w e) =
      rw (ne_eqb closing 0 (λ q. omega arith), eq-eqb closing 1 c, eq-eqb start 0 w) (is_true _ (equal_row (rows (count - 1)) (rows 0) e))
  closed_is (backward c w e) =
      rw (ne_eqb closing 0 (λ q. omega arith), ne_eqb closing 1 (λ q. omega arith), eq-eqb closing 2 c, le-leb 2 start w) (is_true _ (equal_row (rows 0) (rows start) e))

  -- what 12 lets through
  pub claimed : claim_so rows count start closing ≡ true → (least_points ≤ count) × (count ≤ most_points) × (start < count) × (closing_so rows count start closing ≡ true)
  unfolding claim_so
  claimed e =
      let c = closing_so rows count start closing in
      let s = both (count_fits count) (ltb start count && c) e in
      let n = count_fits_lem count s.0 in
      let t = both (ltb start count) c s.1 in
      (n.0, n.1, ltb-true start count t.0, t.1)

  -- so its code is one
  pub code_so : closing_so rows count start closing ≡ true → closing ≤ 2
  unfolding closing_so
  code_so e =
      cases (eqb closing 0) (λ w. let d = eqb-true closing 0 w in omega arith)
      (λ w. cases (eqb closing 1) (λ v. let d = eqb-true closing 1 v in omega arith)
      (λ v. let q : closing_so rows count start closing ≡ (eqb closing 2 && (leb 2 start && same_row (rows 0) (rows start))) = rw (w, v) in
      let d = eqb-true closing 2 (both (eqb closing 2) _ (sym q ∙ e)).0 in omega arith))

-- ---- the whole

module _ (a b : Patch) (tol : Tolerance) (l : List Float) (count start closing : ℕ) where
  -- STATEMENT 2, one way: what passes the check has every one of the mission's conditions. The numbers of the list are binary64, as those of every lent list are.
  pub checked_passes : Binary64 l → check_of a b tol l count start closing ≡ Ok tt → Passes a b tol l count start closing
  unfolding check_of
  checked_passes d e =
      let s = first_passed (check_tests a b tol l count start closing) e in
      let p = pair_passed a b tol s.0 in
      let n = holds_length width l count (asked_held (holds_of width l count) refusal.Lent s.1.0) in
      let c = claimed (row_of l) count start closing (asked_held (claim_so (row_of l) count start closing) refusal.Claim s.1.1.0) in
      let f : ((i : ℕ) → i < count → AllFit (numbers_of (row_of l i))) = λ i h. row_fits l d i (omega arith) in
      let each = points_pass a b tol (row_of l) count (closing_end count closing) f s.1.1.1.0 in
      record {
        fit_a = p.0;
        fit_b = p.1;
        tolerance = passes _ p.2;
        lent = n;
        least = c.0;
        most = c.1;
        among = c.2;
        closed = closed_of (row_of l) count start closing f c.2 c.3;
        points = λ i h. (each i h).0;
        chords = λ i z h k. (each i h).1 z k;
      }

  -- and the other: where the conditions hold the check says passed
  pub passes_checked : Passes a b tol l count start closing → check_of a b tol l count start closing ≡ Ok tt
  unfolding check_of claim_so holds_of
  passes_checked p =
      let c = closed_is (row_of l) count start closing p.closed in
      rw (passed_pair a b tol p.fit_a p.fit_b (is_true _ p.tolerance), le-leb _ _ p.lent, fits_count count p.least p.most, lt-ltb _ _ p.among, c, pass_points a b tol (row_of l) count (closing_end count closing) p.points (λ i h z k. p.chords i z h k))
