-- The words of the trace file's writer and reader.
use Rattle.std.specs.Prelude.{Ok, Err}
use mathlib.Core.Path.{◌≡◌, sym, ap, subst, ◌∙◌}
use mathlib.Core.List.{List}
use Prim.Native.Nat.{ℕ, ◌+◌, ◌*◌, ◌/◌, ◌%◌, ◌<◌}
use native.Mathlib.Omega.{arith}
use lib.Ieee.{Float}
use lib.ListN.{take}
use Rattle.refusal.specs.Refusal.{number_of}
use Rattle.refusal.proofs.Laws.{number_small}
use Rattle.groups.specs.Traced.{TraceAnswer}
use Rattle.trace_file.specs.Write.{Written}
use Rattle.trace_file.specs.Layout.{version1, width1}
use Rattle.trace_file.specs.Write.{refusal_of, bytes_of}
use Rattle.trace_file.proofs.Back.{write_small, read_claim}
use Rattle.passing.specs.Promises.{WriteV1Promise, ReadPromise}
use Rattle.capi.specs.Answer.{number_in, bytes_in}
use Rattle.capi.specs.Trace.{traced_word, Bounded}
use Rattle.capi.specs.File.{written_word, read_v1, WriteWord, ReadWord}
use Rattle.capi.proofs.Words.{parts}

-- ---- the writer's word

-- what the writer answers has room in a word
pub bytes_fit : {l : List Float} {count start closing : ℕ} {before after : List ℕ} {r : Written} → WriteV1Promise l count start closing before after r → bytes_of r < 4294967296
bytes_fit {l} {count} {start} {closing} {before} p =
    rw p.writes.answer (let h = write_small version1 width1 l count start closing before (omega arith) in omega (arith, h))

-- so a file's bytes have
pub bytes_small : {r : Written} {n : ℕ} → r ≡ Ok n → bytes_of r < 4294967296 → n < 4294967296
bytes_small e h = subst (λ (q : Written). bytes_of q < 4294967296) e h

-- its parts
word_number : (r : Written) → number_in (written_word r) ≡ refusal_of r
unfolding written_word
word_number (Ok n) = let e : (0 + n * 4294967296) % 256 ≡ 0 = omega arith in e
word_number (Err q) = let h = number_small q in let e : (number_of q + 0 * 4294967296) % 256 ≡ number_of q = omega arith in e

word_bytes : (r : Written) → bytes_in (written_word r) ≡ bytes_of r
unfolding written_word
word_bytes (Ok n) = let e : (0 + n * 4294967296) / 4294967296 ≡ n = omega arith in e
word_bytes (Err q) = let h = number_small q in let e : (number_of q + 0 * 4294967296) / 4294967296 ≡ 0 = omega arith in e

pub written_word_lem : {l : List Float} {count start closing : ℕ} {before after : List ℕ} {r : Written} {w : ℕ} → WriteV1Promise l count start closing before after r → w ≡ written_word r
    → WriteWord l count start closing before after w
written_word_lem {after = after} {r = r} p e =
    let n = ap number_in e ∙ word_number r in
    record {
      answer = e ∙ ap written_word p.writes.answer;
      file = p.writes.file;
      reads_back = λ z t h. ap (λ (k : ℕ). read_v1 (take k after) t) (ap bytes_in e ∙ word_bytes r) ∙ p.writes.reads_back (sym n ∙ z) t h;
      same_code = λ z. p.writes.same_code (sym n ∙ z);
      passing = λ a b tol q. n ∙ p.passing a b tol q;
    }

-- ---- the reader's word

module _ {file : List ℕ} {before after : List Float} {r : TraceAnswer} (p : ReadPromise version1 width1 file before after r) where
  -- what the reader answers has room in a word
  pub read_bounded : Bounded r
  read_bounded =
      let h = read_claim version1 width1 file before in
      rw p.answer (record { count = omega (arith, h.0); start = omega (arith, h.1); closing = omega (arith, h.2); round = omega (arith, h.3); column = omega (arith, h.4) })

  pub read_word : {w : ℕ} → w ≡ traced_word r → ReadWord file before after w
  read_word {w} e =
      record {
        answer = e ∙ ap traced_word p.answer;
        buffer = p.buffer;
        writes_back = rw e (λ z t h. let q = parts r read_bounded z in rw (q.1, q.2, q.3) (p.writes_back q.0 t h));
        only = rw e (λ z other d q. p.only (parts r read_bounded z).0 other d (q ∙ rw (← p.answer, ← p.buffer)));
      }
