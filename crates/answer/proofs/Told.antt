-- The job program's line tells of a trace only where that passes.
use Rattle.std.specs.Prelude.{Ok, Err}
use mathlib.Core.Path.{◌≡◌, refl, sym}
use mathlib.Core.List.{List}
use Prim.Native.Nat.{ℕ}
use Rattle.refusal.specs.declared.Refusal.{Refusal}
use Rattle.refusal.proofs.Laws.{number_not_0}
use Rattle.groups.specs.Traced.{code_of, TraceAnswer}
use Rattle.walk.specs.Trace.{trace_of}
use Rattle.job.specs.declared.file.Job.{Job}
use Rattle.job.specs.File.{JobRead}
use Rattle.job.specs.File.{job_of}
use Rattle.passing.proofs.Promised.{trace_promised}
use Rattle.answer.specs.Answer.{answer_line, lent_numbers, walk_after_reading, answer_of, job_answer, Tells, tells_refusal, tells_trace}

module _ (bytes : List ℕ) where
  refused_tells : (r : Refusal) → Tells bytes (answer_line (Err r))
  unfolding answer_line
  refused_tells r = tells_refusal r (rw number_not_0)

  traced_tells : (j : Job) → job_of bytes ≡ Ok j → (t : TraceAnswer) → (trace_of j.a j.b j.tol j.guess j.cap lent_numbers).answer ≡ t → Tells bytes (answer_line t)
  unfolding answer_line
  traced_tells j e (Err r) q = refused_tells r
  traced_tells j e (Ok t) q =
      let p = trace_promised j.a j.b j.tol j.guess j.cap lent_numbers (sym q) refl in
      tells_trace _ t.count t.start (code_of t.closing) refl (record { job = j; read = e; passes = p.passes refl; exact = p.exact refl })

  pub line_tells : Tells bytes (job_answer bytes)
  unfolding job_answer answer_of
  line_tells = go (job_of bytes) refl
    where
      go : (q : JobRead) → job_of bytes ≡ q → Tells bytes (answer_line (walk_after_reading q))
      go (Err r) e = refused_tells r
      go (Ok j) e = traced_tells j e _ refl
