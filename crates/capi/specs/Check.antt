-- The check's word. Definitions only.
use Rattle.std.specs.Prelude.{◌≡◌, List, ℕ, ◌+◌, ◌*◌, ◌^◌, Float, Ok, Err}
use Rattle.refusal.specs.Refusal.{number_of}
use Rattle.refusal.specs.Verdict.{Verdict}
use Rattle.certificate.specs.Passes.{Passes}
use Rattle.refusal.specs.Verdict.{refusal_of, index_in}
use Rattle.certificate.specs.Check.{check_of}
use Rattle.job.specs.declared.file.Job.{Job}
use Rattle.job.specs.File.{JobRead}
use Rattle.job.specs.File.{job_of}
use Rattle.passing.specs.Promises.{JobPasses}

-- the refusal's number + 2^32 times the index of the point that 13 to 16 name (include/geomcore.h)
unfoldable pub checked_word : Verdict → ℕ
checked_word answer = refusal_of answer + index_in answer * 2 ^ 32

-- 19, or the check against the job that was read
abbrev pub check_after_reading : JobRead → List Float → ℕ → ℕ → ℕ → ℕ
check_after_reading (Err r) l count start code = number_of r
check_after_reading (Ok j) l count start code = checked_word (check_of j.a j.b j.tol l count start code)

-- the job's guess and cap are not read
unfoldable pub check_answer : List ℕ → List Float → ℕ → ℕ → ℕ → ℕ
check_answer bytes l count start code = check_after_reading (job_of bytes) l count start code

-- the contract of `geomcore_check`: "a check passes a trace exactly when 01's conditions hold", by this road too
pub record CheckWord (bytes : List ℕ) (l : List Float) (count start code w : ℕ) : Type 0 where
  pub answer : w ≡ check_answer bytes l count start code
  -- the word is 0 exactly when the bytes are a job and the trace passes under it; its exact gaps are small then
  pub passes : w ≡ 0 → JobPasses bytes l count start code
  pub complete : (j : Job) → job_of bytes ≡ Ok j → Passes j.a j.b j.tol l count start code → w ≡ 0
