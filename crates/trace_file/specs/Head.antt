-- What 20 lets through, as a file's head says it. Definitions only.
use Rattle.std.specs.Prelude.{Bool, true, false, ℕ, Result, Ok, Err}
use Rattle.refusal.specs.declared.Refusal.{Refusal}
use Rattle.refusal.specs.declared.Refusal.TheVariants as refusal
use Rattle.groups.specs.Traced.{closing_at}
use Rattle.trace_file.specs.declared.head.Head.{Head}

-- the head of a count, a start's index and a code where they are let through
abbrev pub head_where : Bool → ℕ → ℕ → ℕ → Result Head Refusal
head_where true count start code = Ok (record { count = count; start = start; closing = closing_at code })
head_where false count start code = Err refusal.TraceFile
