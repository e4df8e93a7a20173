-- The words of the trace file's writer and reader, version 1. Definitions only.
use Rattle.std.specs.Prelude.{◌≡◌, List, ℕ, ◌+◌, ◌*◌, ◌^◌, ◌≤◌, leb, length, take, Float, Ok}
use Rattle.loops.specs.Loop.{pick}
use Rattle.loops.specs.Over.{written}
use Rattle.wire.specs.Wire.{AllBytes}
use Rattle.refusal.specs.declared.Refusal.TheVariants as refusal
use Rattle.refusal.specs.Refusal.{number_of}
use Rattle.geometry.specs.declared.tolerance.Tolerance.{Tolerance}
use Rattle.groups.specs.Traced.{closing_at, code_of, traced, Outcome, outcome}
use Rattle.patch.specs.declared.patch.Patch.{Patch}
use Rattle.certificate.specs.Passes.{Passes}
use Rattle.trace_file.specs.Write.{Written}
use Rattle.trace_file.specs.Layout.{file_bytes, version1, width1}
use Rattle.trace_file.specs.Write.{Filed, filed, refusal_of, bytes_of, write_of}
use Rattle.trace_file.specs.Read.{read_of}
use Rattle.capi.specs.Answer.{number_in, closing_in, start_in, count_in, bytes_in}
use Rattle.capi.specs.Trace.{traced_word}

-- the refusal's number + 2^32 times how many bytes were written (include/geomcore.h)
unfoldable pub written_word : Written → ℕ
written_word r = refusal_of r + bytes_of r * 2 ^ 32

-- the writer of version 1: seven numbers a point
abbrev pub write_v1 : List Float → ℕ → ℕ → ℕ → List ℕ → Filed
write_v1 l count start code file = write_of version1 width1 l count start code file

-- its reader
abbrev pub read_v1 : List ℕ → List Float → Outcome
read_v1 file t = read_of version1 width1 file t

-- the contract of `geomcore_write_v1`; `before` and `after` are the lent bytes
pub record WriteWord (l : List Float) (count start code : ℕ) (before after : List ℕ) (w : ℕ) : Type 0 where
  pub answer : w ≡ written_word (write_v1 l count start code before).answer
  pub file : after ≡ (write_v1 l count start code before).file
  -- a low byte of 0: as many bytes as the word says, read into room enough, give the trace back
  pub reads_back : number_in w ≡ 0 → (t : List Float) → width1 * count ≤ length t
      → read_v1 (take (bytes_in w) after) t ≡ outcome (traced count start (closing_at code)) (written (take (width1 * count) l) t)
  -- with the code that was handed over
  pub same_code : number_in w ≡ 0 → code_of (closing_at code) ≡ code
  -- a trace that passes the check is written where there is room, and refused by 8 where there is not
  pub passing : (a b : Patch) (tol : Tolerance) → Passes a b tol l count start code → number_in w ≡ pick (leb (file_bytes width1 count) (length before)) 0 (number_of refusal.Lent)

-- the contract of `geomcore_read_v1`; `before` and `after` are the lent numbers
pub record ReadWord (file : List ℕ) (before after : List Float) (w : ℕ) : Type 0 where
  pub answer : w ≡ traced_word (read_v1 file before).answer
  pub buffer : after ≡ (read_v1 file before).buffer
  -- a low byte of 0: written again with the count, start and code read out of the word, the trace gives that file
  pub writes_back : number_in w ≡ 0 → (t : List ℕ) → length file ≤ length t
      → write_v1 after (count_in w) (start_in w) (closing_in w) t ≡ filed (Ok (length file)) (written file t)
  -- and no other file reads as the same trace
  pub only : number_in w ≡ 0 → (other : List ℕ) → AllBytes other → read_v1 other before ≡ read_v1 file before → other ≡ file
