-- The line that answers a job, from the bytes of its file alone. Definitions only.
use Rattle.std.specs.Prelude.{◌≡◌, List, ℕ, eqb, length, replicate, Float, Ok, Err}
use Rattle.loops.specs.Loop.{pick}
use Rattle.loops.specs.Over.{written}
use Rattle.number.specs.Operators.{bits}
use Rattle.refusal.specs.declared.Refusal.{Refusal}
use Rattle.refusal.specs.Refusal.{number_of}
use Rattle.groups.specs.Traced.{TraceAnswer}
use Rattle.groups.specs.Traced.{refusal_of, count_of, start_of, closing_of}
use Rattle.walk.specs.Trace.{trace_of}
use Rattle.job.specs.File.{JobRead}
use Rattle.job.specs.File.{job_of}
use Rattle.answer.specs.Line.{trace_line, refused_line}
use Rattle.passing.specs.Promises.{JobPasses}

-- "It writes one line: `trace`, count, start index, code in decimal, or `refused` and the number."
unfoldable pub answer_line : TraceAnswer → List ℕ
answer_line t = pick (eqb (refusal_of t) 0) (trace_line (count_of t) (start_of t) (closing_of t)) (refused_line (refusal_of t))

-- "It lends 7,007 numbers": zeros at first
unfoldable pub lent_numbers : List Float
lent_numbers = replicate 7007 (bits 0)

-- the walk of the job that was read, over the numbers lent
abbrev pub walk_after_reading : JobRead → TraceAnswer
walk_after_reading (Err r) = Err r
walk_after_reading (Ok j) = (trace_of j.a j.b j.tol j.guess j.cap lent_numbers).answer

-- 19 is "tested before all else"; then the walk answers
unfoldable pub answer_of : List ℕ → TraceAnswer
answer_of bytes = walk_after_reading (job_of bytes)

-- the line that the program writes
unfoldable pub job_answer : List ℕ → List ℕ
job_answer bytes = answer_line (answer_of bytes)

-- What a line tells of a job: a refusal's number, or the count, the start's index and the code of a trace that passes under the job.
pub data Tells (bytes line : List ℕ) : Type 0 where
  tells_refusal : (r : Refusal) → line ≡ refused_line (number_of r) → Tells bytes line
  tells_trace : (l : List Float) (count start closing : ℕ) → line ≡ trace_line count start closing → JobPasses bytes l count start closing → Tells bytes line

-- the contract of `answer`; `before` and `after` are the lent bytes, r how many the line has
pub record LinePromise (bytes before after : List ℕ) (r : ℕ) : Type 0 where
  pub answer : r ≡ length (job_answer bytes)
  pub line : after ≡ written (job_answer bytes) before
  -- `trace ..` is written only of a line that passes
  pub passes : Tells bytes (job_answer bytes)
