-- The trace's word and the lent numbers after it. Definitions only.
use Rattle.std.specs.Prelude.{◌≡◌, List, ℕ, ◌+◌, ◌*◌, ◌^◌, ◌≤◌, ◌<◌, Float, Ok, Err}
use Rattle.refusal.specs.declared.Refusal.{Refusal}
use Rattle.refusal.specs.declared.Refusal.TheVariants as variant
use Rattle.refusal.specs.Refusal.{number_of}
use Rattle.refusal.specs.Refusal as refusal
use Rattle.groups.specs.Traced.{TraceAnswer}
use Rattle.groups.specs.Traced.{code_of, Outcome, count_of, start_of, round_of, column_of, closing_of}
use Rattle.meeting.specs.Newton.{most_rounds}
use Rattle.walk.specs.Trace.{trace_of}
use Rattle.job.specs.File.{JobRead}
use Rattle.job.specs.File.{job_of}
use Rattle.passing.specs.Promises.{JobPasses, JobUnmet}
use Rattle.capi.specs.Answer.{Answer, answered, number_in, closing_in, round_in, start_in, column_in, count_in}

-- of a line 2^8 times the closing code + 2^16 times the start's index + 2^32 times the count; of a refusal its number + 2^8 times the Newton round that 9
-- and 21 add + 2^16 times the column that 21 adds (include/geomcore.h)
unfoldable pub traced_word : TraceAnswer → ℕ
traced_word (Ok t) = code_of t.closing * 2 ^ 8 + t.start * 2 ^ 16 + t.count * 2 ^ 32
traced_word (Err r) = number_of r + refusal.round_of r * 2 ^ 8 + refusal.column_of r * 2 ^ 16

-- each part of an answer has room in its place of the word
pub record Bounded (t : TraceAnswer) : Type 0 where
  pub count : count_of t < 2 ^ 32
  pub start : start_of t < 2 ^ 16
  pub closing : closing_of t < 2 ^ 8
  pub round : round_of t < 2 ^ 8
  pub column : column_of t < 2 ^ 16

-- the answer as a word, and the buffer
abbrev pub outcome_answer : Outcome → Answer
outcome_answer o = answered (traced_word o.answer) o.buffer

-- 19, or the walk of the job that was read
abbrev pub trace_after_reading : JobRead → List Float → Answer
trace_after_reading (Err r) t = answered (number_of r) t
trace_after_reading (Ok j) t = outcome_answer (trace_of j.a j.b j.tol j.guess j.cap t)

-- by the 347 bytes of a job file; the lent buffer may have any length
unfoldable pub trace_answer : List ℕ → List Float → Answer
trace_answer bytes t = trace_after_reading (job_of bytes) t

-- the contract of `geomcore_trace`; `before` and `after` are the lent buffer
pub record TraceWord (bytes : List ℕ) (before after : List Float) (w : ℕ) : Type 0 where
  pub answer : w ≡ (trace_answer bytes before).word
  pub buffer : after ≡ (trace_answer bytes before).numbers
  -- a low byte of 0: the line in the buffer passes with the count, start and code read out of the word, and its exact gaps are small
  pub passes : number_in w ≡ 0 → JobPasses bytes after (count_in w) (start_in w) (closing_in w)
  -- (02, A2, A3) a low byte of 9 or 21, with the bytes above it: the number, the round and the column with which `meet` of the job's guess refuses; and
  -- where it refuses, the word is no other
  pub unmet : number_in w ≡ number_of (variant.NoMeeting (round_in w)) → JobUnmet bytes before (variant.NoMeeting (round_in w))
  pub singular : number_in w ≡ number_of (variant.Singular (round_in w) (column_in w)) → JobUnmet bytes before (variant.Singular (round_in w) (column_in w))
  pub handed_on : (q : Refusal) → JobUnmet bytes before q → w ≡ traced_word (Err q)
  -- the round is at most 32 beside 9 and at most 31 beside 21
  pub rounds :
      (number_in w ≡ number_of (variant.NoMeeting (round_in w)) → round_in w ≤ most_rounds)
      × (number_in w ≡ number_of (variant.Singular (round_in w) (column_in w)) → round_in w < most_rounds)
  -- 9 has no column, and that beside 21 is a coordinate's: x, y or z
  pub columns :
      (number_in w ≡ number_of (variant.NoMeeting (round_in w)) → column_in w ≡ 0)
      × (number_in w ≡ number_of (variant.Singular (round_in w) (column_in w)) → column_in w < 3)
