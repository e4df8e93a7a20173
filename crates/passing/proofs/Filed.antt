-- The promises of the file's writer and reader follow from the equations of what they call.
use Rattle.std.specs.Prelude.{Ok, Err}
use mathlib.Core.Path.{◌≡◌, refl, sym, ap, subst, ◌∙◌}
use mathlib.Core.Bool.{Bool, true, false}
use mathlib.Core.List.{List}
use Prim.Native.Nat.{ℕ, ◌*◌, ◌≤◌}
use native.Mathlib.Omega.{arith}
use lib.Dec.{T, leb}
use lib.Ieee.{Float, nan}
use lib.Ieee.Scale.{finite}
use lib.ListN.{length, take}
use lib.Seq.{get_or-take, length-take-le}
use borrow.Author.Tests.{le-leb}
use Rattle.loops.specs.Loop.{pick}
use Rattle.loops.specs.Over.{written}
use Rattle.loops.proofs.Over.{take_written}
use Rattle.number.proofs.Binary64.{Binary64}
use Rattle.wire.specs.Wire.{AllBytes}
use Rattle.refusal.specs.declared.Refusal.TheVariants as refusal
use Rattle.refusal.specs.Refusal.{number_of}
use Rattle.refusal.specs.Verdict.{Verdict}
use Rattle.refusal.specs.Verdict.{asked, and_then}
use Rattle.refusal.proofs.Laws.{number_positive}
use Rattle.groups.specs.Groups.{holds_of}
use Rattle.groups.specs.Traced.{TraceAnswer}
use Rattle.groups.specs.Traced.{closing_at, traced, Outcome, outcome, count_of, start_of, closing_of}
use Rattle.groups.specs.Traced as trace
use Rattle.groups.proofs.Closings.{code_back}
use Rattle.geometry.specs.declared.tolerance.Tolerance.{Tolerance}
use Rattle.patch.specs.declared.patch.Patch.{Patch}
use Rattle.certificate.specs.Passes.{Passes}
use Rattle.certificate.proofs.Index.{code_small}
use Rattle.certificate.proofs.Finite.{numbers_finite}
use Rattle.trace_file.specs.Write.{Written}
use Rattle.trace_file.specs.Layout.{file_bytes, version1, width1}
use Rattle.trace_file.specs.File.{all_finite, file_of}
use Rattle.trace_file.specs.Write.{filed, bytes_of, write_fitness, after_writing, write_of}
use Rattle.trace_file.specs.Write as write
use Rattle.trace_file.specs.Read.{read_of}
use Rattle.trace_file.proofs.Numbers.{all_each}
use Rattle.trace_file.proofs.Header.{file_length}
use Rattle.trace_file.proofs.Fitness.{fits_claim, claim_fits_lem, WriteFit, write_fit}
use Rattle.trace_file.proofs.Back.{written_reads, read_again, one_file}
use Rattle.passing.specs.Promises.{WritePromise, WriteV1Promise, ReadPromise}

-- ---- the writer

module _ (version w : ℕ) (l : List Float) (count start code : ℕ) (before : List ℕ) where
  -- where nothing is refused every test passed, and the file stands at the front
  abbrev Whole : write.Filed → Type 0
  Whole o = WriteFit w l count start code (length before) × (o ≡ filed (Ok (file_bytes w count)) (written (file_of version w l count start code) before))

  write_passed : write.refusal_of (write_of version w l count start code before).answer ≡ 0 → Whole (write_of version w l count start code before)
  unfolding write_of
  write_passed = go (write_fitness w l count start code (length before)) refl
    where
      go : (v : Verdict) → write_fitness w l count start code (length before) ≡ v → write.refusal_of (after_writing version w l count start code before v).answer ≡ 0
          → Whole (after_writing version w l count start code before v)
      go (Ok u) e z = (write_fit w l count start code (length before) e, refl)
      go (Err r) e z = let h = number_positive r in absurd (omega arith)

  pub write_promised : Binary64 l → {after : List ℕ} {r : Written} → filed r after ≡ write_of version w l count start code before → WritePromise version w l count start code before after r
  write_promised d {after} {r} e =
      record {
        answer = ap (λ (o : write.Filed). o.answer) e;
        file = ap (λ (o : write.Filed). o.file) e;
        reads_back = back;
        same_code = λ z. code_back code (claim_fits_lem (passed z).0.claim).3;
      }
    where
      passed : write.refusal_of r ≡ 0 → Whole (write_of version w l count start code before)
      passed z = write_passed (ap (λ (o : write.Filed). write.refusal_of o.answer) (sym e) ∙ z)

      back : write.refusal_of r ≡ 0 → (t : List Float) → w * count ≤ length t
          → read_of version w (take (bytes_of r) after) t ≡ outcome (traced count start (closing_at code)) (written (take (w * count) l) t)
      back z t h =
          let p = passed z in
          let q = e ∙ p.1 in
          let n = file_length version w l count start code p.0.lent in
          let front : take (bytes_of r) after ≡ file_of version w l count start code =
          ap (λ (o : write.Filed). take (bytes_of o.answer) o.file) q
          ∙ ap (λ (k : ℕ). take k (written (file_of version w l count start code) before)) (sym n)
          ∙ take_written (file_of version w l count start code) before in
          ap (λ (s : List ℕ). read_of version w s t) front ∙ written_reads version w l d count start code (length before) p.0 t h

-- ---- a trace that passes the check

module _ {a b : Patch} {tol : Tolerance} {l : List Float} {count start closing : ℕ} (p : Passes a b tol l count start closing) where
  all_finite_lem : all_finite (take (width1 * count) l) ≡ true
  all_finite_lem =
      let n = length-take-le (width1 * count) l p.lent in
      all_each (take (width1 * count) l)
      (λ k h. subst (λ (x : Float). T (finite x)) (sym (get_or-take (width1 * count) l k nan (omega arith))) (numbers_finite p k (omega arith)))

  passing_refused : (before : List ℕ)
      → write.refusal_of (write_of version1 width1 l count start closing before).answer ≡ pick (leb (file_bytes width1 count) (length before)) 0 (number_of refusal.Lent)
  unfolding write_of write_fitness holds_of
  passing_refused before =
      rw (fits_claim p.least p.most p.among (code_small p.closed), le-leb (width1 * count) (length l) p.lent, all_finite_lem)
      (go (leb (file_bytes width1 count) (length before)))
    where
      go : (t : Bool) → write.refusal_of (after_writing version1 width1 l count start closing before (and_then (asked t refusal.Lent) (Ok tt))).answer ≡ pick t 0 (number_of refusal.Lent)
      go true = refl
      go false = refl

pub write_v1_promised : (l : List Float) (count start closing : ℕ) (before : List ℕ) → Binary64 l → {after : List ℕ} {r : Written}
    → filed r after ≡ write_of version1 width1 l count start closing before → WriteV1Promise l count start closing before after r
write_v1_promised l count start closing before d e =
    record {
      writes = write_promised version1 width1 l count start closing before d e;
      passing = λ a b tol p. ap (λ (o : write.Filed). write.refusal_of o.answer) e ∙ passing_refused p before;
    }

-- ---- the reader

pub read_promised : (version w : ℕ) (file : List ℕ) (before : List Float) → AllBytes file → {after : List Float} {r : TraceAnswer}
    → outcome r after ≡ read_of version w file before → ReadPromise version w file before after r
read_promised version w file before d {after} {r} e =
    record {
      answer = ap (λ (o : Outcome). o.answer) e;
      buffer = ap (λ (o : Outcome). o.buffer) e;
      writes_back = back;
      only = λ z other b q. one_file version w file other d b before (passed z) (q ∙ e);
    }
  where
    passed : trace.refusal_of r ≡ 0 → trace.refusal_of (read_of version w file before).answer ≡ 0
    passed z = ap (λ (o : Outcome). trace.refusal_of o.answer) (sym e) ∙ z

    back : trace.refusal_of r ≡ 0 → (t : List ℕ) → length file ≤ length t
        → write_of version w after (count_of r) (start_of r) (closing_of r) t ≡ filed (Ok (length file)) (written file t)
    back z t h =
        ap (λ (o : Outcome). write_of version w o.buffer (count_of o.answer) (start_of o.answer) (closing_of o.answer) t) e
        ∙ read_again version w file d before (passed z) t h
