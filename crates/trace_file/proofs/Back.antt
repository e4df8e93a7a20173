-- A trace written and read again is the trace, a file read and written again is the file, and so only one file stands for a trace.
use Rattle.std.specs.Prelude.{Ok, Err}
use mathlib.Core.Path.{◌≡◌, refl, sym, ap, ◌∙◌}
use mathlib.Core.List.{List, ◌++◌, append-nil}
use Prim.Native.Nat.{ℕ, ◌*◌, ◌≤◌}
use native.Mathlib.Omega.{arith}
use lib.Dec.{leb}
use lib.Ieee.{Float}
use lib.ListN.{length, take, drop, length-drop, take-append-drop}
use lib.Seq.{length-take-le, take_all}
use Rattle.loops.specs.Over.{written}
use Rattle.loops.proofs.Over.{take_written, length_written}
use Rattle.number.proofs.Binary64.{Binary64, take_fits}
use Rattle.wire.specs.Wire.{AllBytes, numbers_from, numbers_bytes}
use Rattle.wire.proofs.Several.{from_length}
use Rattle.refusal.specs.declared.Numbers.{Numbers}
use Rattle.refusal.specs.declared.Refusal.TheVariants as refusal
use Rattle.refusal.specs.Verdict.{Verdict}
use Rattle.refusal.proofs.Laws.{number_positive}
use Rattle.refusal.proofs.Order.{first_each, asked_each, Alone}
use Rattle.groups.proofs.Closings.{code_small}
use Rattle.groups.proofs.Closings as closings
use Rattle.groups.specs.Traced.{closing_at, traced, Outcome, outcome, refusal_of, count_of, start_of, round_of, column_of, closing_of, greatest_code}
use Rattle.groups.specs.Groups.{most_points}
use Rattle.trace_file.specs.Layout.{numbers_place, most_width}
use Rattle.trace_file.specs.File.{file_of, count_in, start_in, code_in, numbers_in, header_of, header_fits, all_finite}
use Rattle.trace_file.specs.Write.{filed, bytes_of, write_fitness, after_writing, write_of}
use Rattle.trace_file.specs.Read.{after_reading, read_tests, read_fitness, read_of}
use Rattle.trace_file.proofs.Numbers.{product_small, numbers_back, numbers_again}
use Rattle.trace_file.proofs.Header.{version_back, count_back, start_back, code_back, length_back, behind_header, file_length, header_again}
use Rattle.trace_file.proofs.Fitness.{claim_fits_lem, WriteFit, write_fit, fit_write, ReadFit, read_fit, fit_read}

-- ---- written, then read

module _ (version w : ℕ) (l : List Float) (d : Binary64 l) (count start code room : ℕ) (f : WriteFit w l count start code room) where
  abbrev file : List ℕ
  file = file_of version w l count start code

  numbers_are : numbers_in w file ≡ take (w * count) l
  numbers_are =
      let n = length-take-le (w * count) l f.lent in
      ap (λ (c : ℕ). numbers_from file numbers_place (w * c)) (count_back version w l count start code)
      ∙ ap (numbers_from file numbers_place) (sym n)
      ∙ numbers_back (take (w * count) l) file _ numbers_place (take_fits (w * count) l d)
      (behind_header version w l count start code ∙ sym (append-nil _))

  reads_fit : (more : ℕ) → w * count ≤ more → ReadFit version w file more
  reads_fit more h =
      let c = count_back version w l count start code in
      let long = file_length version w l count start code f.lent in
      record {
        header = record {
          there = rw long (omega arith);
          versioned = version_back version w l count start code;
          claim = rw (c, start_back version w l count start code, code_back version w l count start code) f.claim;
          long = rw c (length_back version w l count start code);
          bytes = rw c long;
        };
        finite = rw numbers_are f.finite;
        holds = rw c h;
      }

  -- "Reading what was written, into room enough, returns the trace bit for bit"
  pub written_reads : (t : List Float) → w * count ≤ length t → read_of version w file t ≡ outcome (traced count start (closing_at code)) (written (take (w * count) l) t)
  unfolding read_of
  written_reads t h =
      rw (
        fit_read version w file (length t) (reads_fit (length t) h),
        numbers_are,
        count_back version w l count start code,
        start_back version w l count start code,
        code_back version w l count start code,
      )

-- ---- read, then written

module _ (version w : ℕ) (s : List ℕ) (d : AllBytes s) (room : ℕ) (f : ReadFit version w s room) where
  size : length (numbers_in w s) ≡ w * count_in s
  size = from_length s numbers_place (w * count_in s)

  -- a file is the file of what it says
  file_again : (l : List Float) → take (w * count_in s) l ≡ numbers_in w s → file_of version w l (count_in s) (start_in s) (code_in s) ≡ s
  unfolding file_of
  file_again l e =
      let n = w * count_in s in
      let b = f.header.bytes in
      ap (λ (z : List Float). header_of version w (count_in s) (start_in s) (code_in s) ++ numbers_bytes z) e
      ∙ ap (λ (v : ℕ). header_of v w (count_in s) (start_in s) (code_in s) ++ numbers_bytes (numbers_in w s)) (sym f.header.versioned)
      ∙ ap (λ (z : List ℕ). z ++ numbers_bytes (numbers_in w s)) (header_again s w d f.header.there f.header.long)
      ∙ ap (λ (z : List ℕ). take numbers_place s ++ z)
      (numbers_again s numbers_place n d (omega arith) f.finite ∙ take_all (8 * n) (drop numbers_place s) (let g = length-drop numbers_place s in omega arith))
      ∙ take-append-drop numbers_place s

  -- the numbers that were read into a list
  module _ (t : List Float) (r : room ≡ length t) where
    abbrev got : List Float
    got = written (numbers_in w s) t

    got_front : take (w * count_in s) got ≡ numbers_in w s
    got_front = ap (λ (k : ℕ). take k got) (sym size) ∙ take_written (numbers_in w s) t

    writes_fit : (more : ℕ) → length s ≤ more → WriteFit w got (count_in s) (start_in s) (code_in s) more
    writes_fit more h =
        let n = size in
        let k = f.holds in
        let b = f.header.bytes in
        let m = length_written (numbers_in w s) t (omega arith) in
        record {
          claim = f.header.claim;
          lent = omega arith;
          holds = omega arith;
          finite = rw got_front f.finite;
        }

    -- "only one file stands for a trace": a file that reads, written again, is that file
    read_writes : (u : List ℕ) → length s ≤ length u → write_of version w got (count_in s) (start_in s) (code_in s) u ≡ filed (Ok (length s)) (written s u)
    unfolding write_of
    read_writes u h =
        rw (fit_write w got (count_in s) (start_in s) (code_in s) (length u) (writes_fit (length u) h), file_again got got_front, ← f.header.bytes)

-- ---- two files that read as the same trace

-- what reads is no refusal
reads : (version w : ℕ) (s : List ℕ) (t : List Float) → refusal_of (read_of version w s t).answer ≡ 0 → ReadFit version w s (length t)
unfolding read_of
reads version w s t z = read_fit version w s (length t) (go (read_fitness version w s (length t)) z)
  where
    go : (v : Verdict) → refusal_of (after_reading w s t v).answer ≡ 0 → v ≡ Ok tt
    go (Ok u) e = refl
    go (Err r) e = let h = number_positive r in absurd (omega arith)

read_is : (version w : ℕ) (s : List ℕ) (t : List Float) → ReadFit version w s (length t)
    → read_of version w s t ≡ outcome (traced (count_in s) (start_in s) (closing_at (code_in s))) (written (numbers_in w s) t)
unfolding read_of
read_is version w s t f = rw (fit_read version w s (length t) f)

read_alone : (version w : ℕ) (s : List ℕ) (room : ℕ) → Alone (read_fitness version w s room)
unfolding read_fitness
read_alone version w s room =
    first_each Alone (read_tests version w s room) (
      asked_each Alone (header_fits version w s) refusal.TraceFile tt refl,
      λ h. (
        asked_each Alone (all_finite (numbers_in w s)) refusal.TraceFile tt refl,
        λ f.
            (asked_each Alone (leb (w * count_in s) room) refusal.Lent tt refl, λ l. tt),
      ),
    )

-- what is read has the count, start and code that 20 lets through, and 0 for each where it refuses; it has no round and no column
pub read_claim : (version w : ℕ) (s : List ℕ) (t : List Float)
    → (let r = (read_of version w s t).answer in (count_of r ≤ most_points) × (start_of r ≤ most_points) × (closing_of r ≤ greatest_code) × (round_of r ≡ 0) × (column_of r ≡ 0))
unfolding read_of
read_claim version w s t = go (read_fitness version w s (length t)) refl (read_alone version w s (length t))
  where
    go : (v : Verdict) → read_fitness version w s (length t) ≡ v → Alone v
        → (let r = (after_reading w s t v).answer in (count_of r ≤ most_points) × (start_of r ≤ most_points) × (closing_of r ≤ greatest_code) × (round_of r ≡ 0) × (column_of r ≡ 0))
    go (Ok u) e n = let k = claim_fits_lem (read_fit version w s (length t) e).header.claim in (k.1, omega (arith, k.1, k.2), code_small (closing_at (code_in s)), refl, refl)
    go (Err r) e n = (omega arith, omega arith, omega arith, ap (λ (q : Numbers). q.round) n, ap (λ (q : Numbers). q.column) n)

-- what is written has few bytes
pub write_small : (version w : ℕ) (l : List Float) (count start code : ℕ) (t : List ℕ) → w ≤ most_width → bytes_of (write_of version w l count start code t).answer ≤ 8388618
unfolding write_of
write_small version w l count start code t h = go (write_fitness w l count start code (length t)) refl
  where
    go : (v : Verdict) → write_fitness w l count start code (length t) ≡ v → bytes_of (after_writing version w l count start code t v).answer ≤ 8388618
    go (Ok u) e =
        let k = claim_fits_lem (write_fit w l count start code (length t) e).claim in
        let n = product_small w count h (omega (arith, k.1)) in
        omega (arith, n)
    go (Err r) e = omega arith

-- what was read, written again
pub read_again : (version w : ℕ) (s : List ℕ) → AllBytes s → (t : List Float) → refusal_of (read_of version w s t).answer ≡ 0 → (u : List ℕ) → length s ≤ length u
    → (let o = read_of version w s t in write_of version w o.buffer (count_of o.answer) (start_of o.answer) (closing_of o.answer) u) ≡ filed (Ok (length s)) (written s u)
read_again version w s d t z u h =
    let f = reads version w s t z in
    ap (λ (o : Outcome). write_of version w o.buffer (count_of o.answer) (start_of o.answer) (closing_of o.answer) u) (read_is version w s t f)
    ∙ ap (λ (k : ℕ). write_of version w (written (numbers_in w s) t) (count_in s) (start_in s) k u) (closings.code_back (code_in s) (claim_fits_lem f.header.claim).3)
    ∙ read_writes version w s d (length t) f t refl u h

pub one_file : (version w : ℕ) (s u : List ℕ) → AllBytes s → AllBytes u → (t : List Float) → refusal_of (read_of version w s t).answer ≡ 0
    → read_of version w u t ≡ read_of version w s t → u ≡ s
one_file version w s u ds du t z e =
    let f = reads version w s t z in
    let g = reads version w u t (ap (λ (o : Outcome). refusal_of o.answer) e ∙ z) in
    let same = sym (read_is version w u t g) ∙ e ∙ read_is version w s t f in
    let c : count_in u ≡ count_in s = ap (λ (o : Outcome). count_of o.answer) same in
    let b : start_in u ≡ start_in s = ap (λ (o : Outcome). start_of o.answer) same in
    let k : code_in u ≡ code_in s =
    sym (closings.code_back (code_in u) (claim_fits_lem g.header.claim).3) ∙ ap (λ (o : Outcome). closing_of o.answer) same ∙ closings.code_back (code_in s) (claim_fits_lem f.header.claim).3
    in
    let n : written (numbers_in w u) t ≡ written (numbers_in w s) t = ap (λ (o : Outcome). o.buffer) same in
    sym (file_again version w u du (length t) g (written (numbers_in w u) t) (got_front version w u du (length t) g t refl))
    ∙ rw (n, c, b, k) (file_again version w s ds (length t) f (written (numbers_in w s) t) (got_front version w s ds (length t) f t refl))
