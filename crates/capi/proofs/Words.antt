-- The words hold their parts apart, and 0 means that nothing is refused.
use Rattle.std.specs.Prelude.{Ok, Err}
use mathlib.Core.Path.{◌≡◌, refl, sym, ap, ◌∙◌, subst}
use mathlib.Core.List.{List}
use mathlib.Core.Logic.{⊎_elim}
use Prim.Native.Nat.{ℕ, ◌+◌, ◌*◌, ◌/◌, ◌%◌, ◌^◌, ◌<◌}
use native.Mathlib.Omega.{arith}
use lib.Ieee.{Float}
use Rattle.refusal.specs.declared.Refusal.{Refusal}
use Rattle.refusal.specs.declared.Refusal.TheVariants as variant
use Rattle.refusal.specs.Refusal.{number_of, index_of, round_of, column_of}
use Rattle.refusal.proofs.Laws.{number_positive, number_small, Elsewhere, which, told_unmet, told_singular}
use Rattle.geometry.specs.declared.tolerance.Tolerance.{Tolerance}
use Rattle.patch.specs.declared.patch.Patch.{Patch}
use Rattle.patch.specs.declared.patch.Parameters.{Parameters}
use Rattle.refusal.specs.Verdict.{Verdict}
use Rattle.certificate.specs.Passes.{Passes}
use Rattle.refusal.specs.Verdict as verdict
use Rattle.certificate.proofs.Index.{check_index, code_small}
use Rattle.groups.specs.Traced.{TraceAnswer}
use Rattle.groups.specs.declared.traced.Traced.{Traced}
use Rattle.groups.specs.Traced.{code_of, count_of, start_of, closing_of}
use Rattle.groups.specs.Traced as trace
use Rattle.job.specs.declared.file.Job.{Job}
use Rattle.job.specs.File.{JobRead}
use Rattle.job.specs.File.{job_of}
use Rattle.job.proofs.Unread.{unread}
use Rattle.meeting.specs.Newton.{Unmet}
use Rattle.meeting.proofs.Rounds.{meet_unmet, unmet_round, singular_bounds}
use Rattle.passing.specs.Promises.{JobPasses, GuessUnmet, JobUnmet, TracePromise, CheckPromise}
use Rattle.capi.specs.Answer.{number_in, closing_in, round_in, start_in, column_in, count_in}
use Rattle.capi.specs.Check.{checked_word, check_answer, CheckWord}
use Rattle.capi.specs.Trace.{traced_word, Bounded, trace_answer, TraceWord}

-- a refusal's number fills the low byte, and is not 0
pub unlike_zero : (r : Refusal) → number_of r % 256 ≡ 0 → ⊥
unlike_zero r e = let a = number_positive r in let b = number_small r in omega (arith, a, b, e)

pub number_fits : (r : Refusal) → number_of r < 256
number_fits r = let h = number_small r in omega (arith, h)

-- ---- the trace's word

module _ {a b : Patch} {tol : Tolerance} {guess : Parameters} {cap : ℕ} {before after : List Float} where
  -- 9 and 21 have a round of at most 32, 21 has a column below 3, the others have neither
  added_fits : (q : Refusal) → TracePromise a b tol guess cap before after (Err q) → (round_of q < 256) × (column_of q < 65536)
  added_fits q p =
      let rounds = p.rounds (round_of q) in
      ⊎_elim
      (λ (e : q ≡ variant.NoMeeting (round_of q)). let h = rounds.0 (ap Err e) in let z : column_of q ≡ 0 = ap column_of e in (omega (arith, h), omega (arith, z)))
      (λ h.
      ⊎_elim
      (λ (e : q ≡ variant.Singular (round_of q) (column_of q)).
      let k = rounds.1 (column_of q) (ap Err e) in let l = p.columns (round_of q) (column_of q) (ap Err e) in (omega (arith, k), omega (arith, l)))
      (λ (e : Elsewhere q). (omega (arith, e.0), omega (arith, e.1))) h)
      (which q)

  -- what `trace` answers has room in a word
  pub bounded : (r : TraceAnswer) → TracePromise a b tol guess cap before after r → Bounded r
  bounded (Err q) p = record { count = omega arith; start = omega arith; closing = omega arith; round = (added_fits q p).0; column = (added_fits q p).1 }
  bounded (Ok t) p =
      let h = p.passes refl in
      let m = h.most in
      let s = h.among in
      let k = code_small h.closed in
      record { count = omega (arith, m); start = omega (arith, m, s); closing = omega (arith, k); round = omega arith; column = omega arith }

-- so a line has
pub line_fits : {r : TraceAnswer} {t : Traced} → r ≡ Ok t → Bounded r → (t.count < 4294967296) × ((t.start < 65536) × (code_of t.closing < 256))
line_fits e h = let b = subst Bounded e h in (b.count, (b.start, b.closing))

pub added_told : {t : TraceAnswer} {q : Refusal} → t ≡ Err q → Bounded t → (round_of q < 256) × (column_of q < 65536)
added_told e h = let b = subst Bounded e h in (b.round, b.column)

-- the parts of a line's word
module _ (code start count : ℕ) (h : code < 256) where
  code_part : (code * 2 ^ 8 + start * 2 ^ 16 + count * 2 ^ 32) / 2 ^ 8 % 2 ^ 8 ≡ code
  code_part =
      let e : (code * 256 + start * 65536 + count * 4294967296) / 256 ≡ code + (start + count * 65536) * 256 = omega (arith, h) in
      rw e (omega (arith, h))

  module _ (k : start < 65536) where
    start_part : (code * 2 ^ 8 + start * 2 ^ 16 + count * 2 ^ 32) / 2 ^ 16 % 2 ^ 16 ≡ start
    start_part =
        let e : (code * 256 + start * 65536 + count * 4294967296) / 65536 ≡ start + count * 65536 = omega (arith, h, k) in
        rw e (omega (arith, k))

    count_part : (code * 2 ^ 8 + start * 2 ^ 16 + count * 2 ^ 32) / 2 ^ 32 ≡ count
    count_part = omega (arith, h, k)

line_number : (t : Traced) → number_in (traced_word (Ok t)) ≡ 0
unfolding traced_word
line_number t = let e : (code_of t.closing * 256 + t.start * 65536 + t.count * 4294967296) % 256 ≡ 0 = omega arith in e

-- the parts of a refusal's word
refused_number : (q : Refusal) → number_in (traced_word (Err q)) ≡ number_of q
unfolding traced_word
refused_number q = let h = number_small q in let e : (number_of q + round_of q * 256 + column_of q * 65536) % 256 ≡ number_of q = omega (arith, h) in e

refused_round : (q : Refusal) → round_of q < 256 → round_in (traced_word (Err q)) ≡ round_of q
unfolding traced_word
refused_round q k =
    let h = number_small q in
    let e : (number_of q + round_of q * 256 + column_of q * 65536) / 256 ≡ round_of q + column_of q * 256 = omega (arith, h) in
    ap (λ (n : ℕ). n % 256) e ∙ (let f : (round_of q + column_of q * 256) % 256 ≡ round_of q = omega (arith, k) in f)

refused_column : (q : Refusal) → round_of q < 256 → column_of q < 65536 → column_in (traced_word (Err q)) ≡ column_of q
unfolding traced_word
refused_column q k l =
    let h = number_small q in
    let e : (number_of q + round_of q * 256 + column_of q * 65536) / 65536 ≡ column_of q = omega (arith, h, k) in
    ap (λ (n : ℕ). n % 65536) e ∙ (let f : column_of q % 65536 ≡ column_of q = omega (arith, l) in f)

-- a low byte of 0: nothing is refused, and the parts read out of the word are the answer's
pub parts : (r : TraceAnswer) → Bounded r → number_in (traced_word r) ≡ 0
    → (trace.refusal_of r ≡ 0) × (count_in (traced_word r) ≡ count_of r) × (start_in (traced_word r) ≡ start_of r) × (closing_in (traced_word r) ≡ closing_of r)
unfolding traced_word
parts (Err q) b z = absurd (unlike_zero q (let h = refused_number q in let e : number_of q % 256 ≡ 0 = omega (arith, h, z) in e))
parts (Ok t) b z =
    (refl, count_part (code_of t.closing) t.start t.count b.closing b.start, start_part (code_of t.closing) t.start t.count b.closing b.start, code_part (code_of t.closing) t.start t.count b.closing)

-- two readings of the same bytes
abbrev job_in : Job → JobRead → Job
job_in d (Ok j) = j
job_in d (Err r) = d

-- so the line in the buffer passes with them
module _ (bytes : List ℕ) (j : Job) (read : job_of bytes ≡ Ok j) (before after : List Float) where
  read_back : (r : TraceAnswer) → TracePromise j.a j.b j.tol j.guess j.cap before after r → number_in (traced_word r) ≡ 0
      → JobPasses bytes after (count_in (traced_word r)) (start_in (traced_word r)) (closing_in (traced_word r))
  read_back r p z =
      let q = parts r (bounded r p) z in
      rw (q.1, q.2, q.3) (record { job = j; read = read; passes = p.passes q.0; exact = p.exact q.0 })

  -- a low byte of 9 or 21: the guess is unmet in the round and at the column read out of the word
  told : (refused : ℕ → ℕ → Refusal) → ((q : Refusal) (i col : ℕ) → number_of q ≡ number_of (refused i col) → q ≡ refused (round_of q) (column_of q))
      → (r : TraceAnswer) → TracePromise j.a j.b j.tol j.guess j.cap before after r
      → ((i col : ℕ) → r ≡ Err (refused i col) → GuessUnmet j.a j.b j.tol j.guess j.cap before (refused i col))
      → number_in (traced_word r) ≡ number_of (refused (round_in (traced_word r)) (column_in (traced_word r)))
      → JobUnmet bytes before (refused (round_in (traced_word r)) (column_in (traced_word r)))
  told refused by_number (Err q) p g z =
      let e = by_number q _ _ (sym (refused_number q) ∙ z) in
      let h = added_fits q p in
      rw (refused_round q h.0, refused_column q h.0 h.1) (record { job = j; read = read; guess = g (round_of q) (column_of q) (ap Err e) })
  told refused by_number (Ok t) p g z =
      let w = traced_word (Ok t) in
      let k = number_positive (refused (round_in w) (column_in w)) in
      let e = line_number t in
      absurd (let y : ⊥ = omega (arith, k, e, z) in y)

  -- 9 has no column
  columnless : (r : TraceAnswer) → TracePromise j.a j.b j.tol j.guess j.cap before after r → number_in (traced_word r) ≡ 9 → column_in (traced_word r) ≡ 0
  columnless (Err q) p z =
      let h = added_fits q p in
      refused_column q h.0 h.1 ∙ ap column_of (told_unmet q 0 (sym (refused_number q) ∙ z))
  columnless (Ok t) p z = absurd (let e = line_number t in let y : ⊥ = omega (arith, e, z) in y)

  pub traced_word_lem : {r : TraceAnswer} {w : ℕ} → TracePromise j.a j.b j.tol j.guess j.cap before after r → w ≡ traced_word r → TraceWord bytes before after w
  unfolding trace_answer
  traced_word_lem {r} p e =
      record {
        answer = rw (read, ← p.answer) e;
        buffer = rw (read) p.buffer;
        passes = rw e (read_back r p);
        unmet = rw e unmet;
        singular = rw e singular;
        rounds = rw e (λ z. unmet_round _ (why _ (unmet z)), λ z. (singular_bounds _ _ (why _ (singular z))).0);
        columns = rw e (columnless r p, λ z. (singular_bounds _ _ (why _ (singular z))).1);
        handed_on = λ q u.
            let same : u.job ≡ j = ap (job_in j) (sym u.read) ∙ ap (job_in j) read in
            e ∙ ap traced_word (p.handed_on q (subst (λ (k : Job). GuessUnmet k.a k.b k.tol k.guess k.cap before q) same u.guess));
      }
    where
      unmet : number_in (traced_word r) ≡ number_of (variant.NoMeeting (round_in (traced_word r))) → JobUnmet bytes before (variant.NoMeeting (round_in (traced_word r)))
      unmet = told (λ i col. variant.NoMeeting i) (λ q i col. told_unmet q i) r p (λ i col. p.unmet i)

      singular : number_in (traced_word r) ≡ number_of (variant.Singular (round_in (traced_word r)) (column_in (traced_word r)))
          → JobUnmet bytes before (variant.Singular (round_in (traced_word r)) (column_in (traced_word r)))
      singular = told variant.Singular told_singular r p p.singular

      why : (q : Refusal) → JobUnmet bytes before q → Unmet 3 q
      why q u = meet_unmet u.job.a u.job.b u.job.guess u.job.tol q u.guess.meeting

-- a job that can't be read
module _ (bytes : List ℕ) {r : Refusal} (e : job_of bytes ≡ Err r) where
  unlike_whole : {j : Job} → job_of bytes ≡ Ok j → ⊥
  unlike_whole {j} q = let same : Ok j ≡ Err r = sym q ∙ e in let z : ◌≡◌ {A = ℕ} 0 1 = cc in omega arith

  pub traced_unread : (t : List Float) {w : ℕ} → w ≡ number_of r → TraceWord bytes t t w
  unfolding trace_answer
  traced_unread t f =
      let n : number_of r ≡ 19 = ap number_of (unread bytes r e) in
      record {
        answer = rw e f;
        buffer = rw e refl;
        passes = λ z. absurd (unlike_zero r (ap (λ (n : ℕ). n % 256) (sym f) ∙ z));
        unmet = λ z. absurd (omega (arith, n, f, z));
        singular = λ z. absurd (omega (arith, n, f, z));
        rounds = (λ z. absurd (omega (arith, n, f, z)), λ z. absurd (omega (arith, n, f, z)));
        columns = (λ z. absurd (omega (arith, n, f, z)), λ z. absurd (omega (arith, n, f, z)));
        handed_on = λ q u. absurd (unlike_whole u.read);
      }

-- ---- the check's word

-- what `check` answers has room in a word
pub index_told : {a b : Patch} {tol : Tolerance} {l : List Float} (count start code : ℕ) {s : Verdict} → CheckPromise a b tol l count start code s → verdict.index_in s < 4294967296
index_told {a} {b} {tol} {l} count start code p = let h = check_index a b tol l count start code in rw p.answer (omega (arith, h))

-- so a refusal has
pub refusal_fits : {s : Verdict} {r : Refusal} → s ≡ Err r → verdict.index_in s < 4294967296 → index_of r < 4294967296
refusal_fits e h = subst (λ (t : Verdict). verdict.index_in t < 4294967296) e h

word_passed : (s : Verdict) → checked_word s ≡ 0 → verdict.refusal_of s ≡ 0
unfolding checked_word
word_passed s e = omega (arith, e)

passed_word : (s : Verdict) → verdict.refusal_of s ≡ 0 → checked_word s ≡ 0
unfolding checked_word
passed_word (Ok u) e = refl
passed_word (Err r) e = let h = number_positive r in absurd (omega (arith, h, e))

module _ (bytes : List ℕ) (l : List Float) (count start code : ℕ) where
  pub checked_word_lem : {j : Job} {s : Verdict} {w : ℕ} → job_of bytes ≡ Ok j → CheckPromise j.a j.b j.tol l count start code s → w ≡ checked_word s
      → CheckWord bytes l count start code w
  unfolding check_answer
  checked_word_lem {j} {s} e p f =
      record {
        answer = rw (e, ← p.answer) f;
        passes = λ z. let n = word_passed s (sym f ∙ z) in record { job = j; read = e; passes = p.passes n; exact = p.exact n };
        complete = λ k r q.
            let same : k ≡ j = ap (job_in j) (sym r) ∙ ap (job_in j) e in
            f ∙ passed_word s (p.complete (subst (λ (i : Job). Passes i.a i.b i.tol l count start code) same q));
      }

  pub checked_unread : {r : Refusal} {w : ℕ} → job_of bytes ≡ Err r → w ≡ number_of r → CheckWord bytes l count start code w
  unfolding check_answer
  checked_unread {r} e f =
      record {
        answer = rw e f;
        passes = λ z. let h = number_positive r in absurd (omega (arith, h, sym f ∙ z));
        complete = λ k q p. absurd (unlike_whole bytes e q);
      }
