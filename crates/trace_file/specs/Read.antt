-- The reader: its refusals, its answer and the lent numbers after it. Definitions only.
use Rattle.std.specs.Prelude.{List, [], ◌∷◌, ℕ, ◌*◌, leb, length, Float, Ok, Err}
use Rattle.loops.specs.Over.{written}
use Rattle.refusal.specs.declared.Refusal.TheVariants as refusal
use Rattle.refusal.specs.Verdict.{Verdict}
use Rattle.refusal.specs.Verdict.{asked, first_refusal}
use Rattle.groups.specs.Traced.{closing_at, traced, Outcome, outcome}
use Rattle.trace_file.specs.File.{count_in, start_in, code_in, numbers_in, header_fits, all_finite}

-- all of 20; then 8: "a lent slice too short for the trace .. follows the new one"
abbrev pub read_tests : ℕ → ℕ → List ℕ → ℕ → List Verdict
read_tests version w s room =
    asked (header_fits version w s) refusal.TraceFile
    ∷ asked (all_finite (numbers_in w s)) refusal.TraceFile
    ∷ asked (leb (w * count_in s) room) refusal.Lent
    ∷ []

-- the first refusal of a call
unfoldable pub read_fitness : ℕ → ℕ → List ℕ → ℕ → Verdict
read_fitness version w s room = first_refusal (read_tests version w s room)

-- "A refusal leaves the output untouched, and so does success beyond what it writes"
abbrev pub after_reading : ℕ → List ℕ → List Float → Verdict → Outcome
after_reading w s t (Err r) = outcome (Err r) t
after_reading w s t (Ok u) = outcome (traced (count_in s) (start_in s) (closing_at (code_in s))) (written (numbers_in w s) t)

-- the call: its answer, and the lent numbers after it. "The reader doesn't judge geometry"
unfoldable pub read_of : ℕ → ℕ → List ℕ → List Float → Outcome
read_of version w s t = after_reading w s t (read_fitness version w s (length t))
