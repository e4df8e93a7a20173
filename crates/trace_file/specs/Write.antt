-- The writer: its refusals, its answer and the lent bytes after it. Definitions only.
use Rattle.std.specs.Prelude.{List, [], ◌∷◌, ℕ, ◌*◌, leb, length, take, Float, Result, Ok, Err}
use Rattle.loops.specs.Over.{written}
use Rattle.refusal.specs.declared.Refusal.{Refusal}
use Rattle.refusal.specs.declared.Refusal.TheVariants as refusal
use Rattle.refusal.specs.Refusal.{number_of}
use Rattle.refusal.specs.Verdict.{Verdict}
use Rattle.refusal.specs.Verdict.{asked, first_refusal}
use Rattle.groups.specs.Groups.{holds_of}
use Rattle.trace_file.specs.Layout.{file_bytes}
use Rattle.trace_file.specs.File.{claim_fits, all_finite, file_of}

-- how many bytes the file has, or why it is refused
abbrev pub Written : Type 0
Written = Result ℕ Refusal

-- an answer and what the lent bytes are with it
pub record Filed : Type 0 where
  pub answer : Written
  pub file : List ℕ

-- the two as one
abbrev pub filed : Written → List ℕ → Filed
filed r s = record { answer = r; file = s }

-- "A refusal is its number alone"; 0 where there is none
abbrev pub refusal_of : Written → ℕ
refusal_of (Ok n) = 0
refusal_of (Err r) = number_of r

-- how many bytes the file has
abbrev pub bytes_of : Written → ℕ
bytes_of (Ok n) = n
bytes_of (Err r) = 0

-- 20: the count, the start index, the code; 8: "a lent slice too short for the trace or the file; it follows the new one"; "the writer looks at numbers only
-- after 8"
abbrev pub write_tests : ℕ → List Float → ℕ → ℕ → ℕ → ℕ → List Verdict
write_tests w l count start code room =
    asked (claim_fits count start code) refusal.TraceFile
    ∷ asked (holds_of w l count) refusal.Lent
    ∷ asked (leb (file_bytes w count) room) refusal.Lent
    ∷ asked (all_finite (take (w * count) l)) refusal.TraceFile
    ∷ []

-- the first refusal of a call
unfoldable pub write_fitness : ℕ → List Float → ℕ → ℕ → ℕ → ℕ → Verdict
write_fitness w l count start code room = first_refusal (write_tests w l count start code room)

-- "A refusal leaves the output untouched, and so does success beyond what it writes"
abbrev pub after_writing : ℕ → ℕ → List Float → ℕ → ℕ → ℕ → List ℕ → Verdict → Filed
after_writing version w l count start code t (Err r) = filed (Err r) t
after_writing version w l count start code t (Ok u) = filed (Ok (file_bytes w count)) (written (file_of version w l count start code) t)

-- the call: its answer, and the lent bytes after it
unfoldable pub write_of : ℕ → ℕ → List Float → ℕ → ℕ → ℕ → List ℕ → Filed
write_of version w l count start code t = after_writing version w l count start code t (write_fitness w l count start code (length t))
