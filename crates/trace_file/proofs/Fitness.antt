-- What a call has that refuses nothing, and that nothing else is asked.
use Rattle.std.specs.Prelude.{Result, Ok, Err}
use mathlib.Core.Path.{◌≡◌, refl, sym, ap, ◌∙◌}
use mathlib.Core.Bool.{Bool, true, false, ◌&&◌}
use mathlib.Core.List.{List}
use Prim.Native.Nat.{ℕ, ◌-◌, ◌*◌, ◌/◌, ◌≤◌, ◌<◌}
use native.Mathlib.Omega.{arith}
use lib.Dec.{eqb, ltb, leb}
use lib.Ieee.{Float}
use lib.Ieee.Scale.{finite}
use Rattle.std.specs.List.{list_all}
use lib.ListN.{length, take}
use borrow.Author.Tests.{leb-true, le-leb, ltb-true, lt-ltb, eqb-true, eq-eqb}
use Rattle.refusal.specs.declared.Refusal.{Refusal}
use Rattle.refusal.specs.declared.Refusal.TheVariants as refusal
use Rattle.refusal.specs.Verdict.{Verdict, asked}
use Rattle.refusal.proofs.Order.{asked_held, asked_failed, first_passed}
use Rattle.wire.specs.Wire.{byte_at, uint_at, numbers_from}
use Rattle.trace_file.proofs.Numbers.{finite_listed}
use Rattle.groups.specs.Groups.{least_points, most_points, count_fits, holds_of}
use Rattle.groups.proofs.Groups.{both, count_fits_lem, fits_count, holds_length}
use Rattle.groups.specs.Traced.{closing_at, greatest_code}
use Rattle.trace_file.specs.declared.head.Head.{Head}
use Rattle.trace_file.specs.Head.{head_where}
use Rattle.trace_file.specs.Layout.{version_place, numbers_place, file_bytes, following}
use Rattle.trace_file.specs.File.{claim_fits, all_finite, count_in, start_in, code_in, numbers_in, length_agrees, header_fits}
use Rattle.trace_file.specs.Write.{write_tests, write_fitness}
use Rattle.trace_file.specs.Read.{read_tests, read_fitness}

-- ---- the count, the start's index and the code

module _ {count start code : ℕ} where
  pub claim_fits_lem : claim_fits count start code ≡ true → (least_points ≤ count) × (count ≤ most_points) × (start < count) × (code ≤ greatest_code)
  unfolding claim_fits
  claim_fits_lem e =
      let s = both (count_fits count) (ltb start count && leb code greatest_code) e in
      let n = count_fits_lem count s.0 in
      let t = both (ltb start count) (leb code greatest_code) s.1 in
      (n.0, n.1, ltb-true start count t.0, leb-true code greatest_code t.1)

  pub fits_claim : least_points ≤ count → count ≤ most_points → start < count → code ≤ greatest_code → claim_fits count start code ≡ true
  unfolding claim_fits
  fits_claim a b c d = rw (fits_count count a b, lt-ltb start count c, le-leb code greatest_code d)

-- ---- the head that is made of them

module _ {b : Bool} (count start code : ℕ) {r : Result Head Refusal} (e : r ≡ head_where b count start code) where
  pub head_given : {h : Head} → r ≡ Ok h → (b ≡ true) × (h ≡ record { count = count; start = start; closing = closing_at code })
  head_given {h} f = go b (sym e ∙ f)
    where
      go : (t : Bool) → head_where t count start code ≡ Ok h → (t ≡ true) × (h ≡ record { count = count; start = start; closing = closing_at code })
      go true g = (refl, cc)
      go false g = cc

  pub head_refused : {q : Refusal} → r ≡ Err q → (b ≡ false) × (q ≡ refusal.TraceFile)
  head_refused {q} f = go b (sym e ∙ f)
    where
      go : (t : Bool) → head_where t count start code ≡ Err q → (t ≡ false) × (q ≡ refusal.TraceFile)
      go true g = cc
      go false g = (refl, cc)

-- ---- a test, by the code's answer to it

pub test_held : (r : Refusal) {b t : Bool} {v : Verdict} {u : Unit {0}} → v ≡ asked b r → v ≡ Ok u → b ≡ t → t ≡ true
test_held r {b} e f g = sym g ∙ asked_held b r (sym e ∙ f)

pub test_failed : (r : Refusal) {b t : Bool} {v : Verdict} {q : Refusal} → v ≡ asked b r → v ≡ Err q → b ≡ t → (t ≡ false) × (q ≡ r)
test_failed r {b} e f g = let n = asked_failed b r (sym e ∙ f) in (sym g ∙ n.0, n.1)

-- ---- the writer's tests

pub record WriteFit (w : ℕ) (l : List Float) (count start code room : ℕ) : Type 0 where
  pub claim : claim_fits count start code ≡ true
  pub lent : w * count ≤ length l
  pub holds : file_bytes w count ≤ room
  pub finite : all_finite (take (w * count) l) ≡ true

module _ (w : ℕ) (l : List Float) (count start code room : ℕ) where
  pub write_fit : write_fitness w l count start code room ≡ Ok tt → WriteFit w l count start code room
  unfolding write_fitness
  write_fit e =
      let s = first_passed (write_tests w l count start code room) e in
      record {
        claim = asked_held (claim_fits count start code) refusal.TraceFile s.0;
        lent = holds_length w l count (asked_held (holds_of w l count) refusal.Lent s.1.0);
        holds = leb-true (file_bytes w count) room (asked_held (leb (file_bytes w count) room) refusal.Lent s.1.1.0);
        finite = asked_held (all_finite (take (w * count) l)) refusal.TraceFile s.1.1.1.0;
      }

  pub fit_write : WriteFit w l count start code room → write_fitness w l count start code room ≡ Ok tt
  unfolding write_fitness holds_of
  fit_write f = rw (f.claim, le-leb (w * count) (length l) f.lent, le-leb (file_bytes w count) room f.holds, f.finite)

-- ---- the reader's tests

pub record HeaderFit (version w : ℕ) (s : List ℕ) : Type 0 where
  pub there : numbers_place ≤ length s
  pub versioned : byte_at s version_place ≡ version
  pub claim : claim_fits (count_in s) (start_in s) (code_in s) ≡ true
  pub long : uint_at 4 s 0 ≡ following w (count_in s)
  pub bytes : length s ≡ file_bytes w (count_in s)

pub record ReadFit (version w : ℕ) (s : List ℕ) (room : ℕ) : Type 0 where
  pub header : HeaderFit version w s
  pub finite : all_finite (numbers_in w s) ≡ true
  pub holds : w * count_in s ≤ room

module _ (version w : ℕ) (s : List ℕ) where
  pub header_fits_lem : header_fits version w s ≡ true → HeaderFit version w s
  unfolding header_fits length_agrees
  header_fits_lem e =
      let claim = claim_fits (count_in s) (start_in s) (code_in s) in
      let long = eqb (uint_at 4 s 0) (following w (count_in s)) in
      let whole = eqb (length s) (file_bytes w (count_in s)) in
      let a = both (leb numbers_place (length s)) (eqb (byte_at s version_place) version && (claim && (long && whole))) e in
      let b = both (eqb (byte_at s version_place) version) (claim && (long && whole)) a.1 in
      let c = both claim (long && whole) b.1 in
      let d = both long whole c.1 in
      record {
        there = leb-true numbers_place (length s) a.0;
        versioned = eqb-true (byte_at s version_place) version b.0;
        claim = c.0;
        long = eqb-true (uint_at 4 s 0) (following w (count_in s)) d.0;
        bytes = eqb-true (length s) (file_bytes w (count_in s)) d.1;
      }

  -- all that stands behind its head is its numbers
  pub finite_read : HeaderFit version w s → {b : Bool} → b ≡ list_all finite (numbers_from s numbers_place ((length s - numbers_place) / 8)) → b ≡ all_finite (numbers_in w s)
  finite_read h e =
      let n : (length s - numbers_place) / 8 ≡ w * count_in s = let b = h.bytes in omega (arith, b) in
      e ∙ ap (λ (k : ℕ). list_all finite (numbers_from s numbers_place k)) n ∙ sym (finite_listed (numbers_in w s))

  module _ (room : ℕ) where
    pub read_fit : read_fitness version w s room ≡ Ok tt → ReadFit version w s room
    unfolding read_fitness
    read_fit e =
        let t = first_passed (read_tests version w s room) e in
        record {
          header = header_fits_lem (asked_held (header_fits version w s) refusal.TraceFile t.0);
          finite = asked_held (all_finite (numbers_in w s)) refusal.TraceFile t.1.0;
          holds = leb-true (w * count_in s) room (asked_held (leb (w * count_in s) room) refusal.Lent t.1.1.0);
        }

    pub fit_read : ReadFit version w s room → read_fitness version w s room ≡ Ok tt
    unfolding read_fitness header_fits length_agrees
    fit_read f =
        let h = f.header in
        rw (
          le-leb numbers_place (length s) h.there,
          eq-eqb (byte_at s version_place) version h.versioned,
          h.claim,
          eq-eqb (uint_at 4 s 0) (following w (count_in s)) h.long,
          eq-eqb (length s) (file_bytes w (count_in s)) h.bytes,
          f.finite,
          le-leb (w * count_in s) room f.holds,
        )
