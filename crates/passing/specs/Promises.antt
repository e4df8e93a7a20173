-- What the public calls promise, on one page. A contract is one of the records at the end: equations settle the answer and every lent output from the
-- inputs alone, refused calls too; the promises stand beside them by name. The number of an answer is 0 where nothing is refused. Definitions only.
use Rattle.std.specs.Prelude.{◌≡◌, true, false, List, [], ◌++◌, ℕ, ◌+◌, ◌*◌, ◌≤◌, ◌<◌, leb, length, take, Float, Ok, Err}
use Rattle.loops.specs.Loop.{pick}
use Rattle.loops.specs.Over.{written}
use Rattle.wire.specs.Wire.{AllBytes}
use Rattle.geometry.specs.declared.tolerance.Tolerance.{Tolerance}
use Rattle.gap.specs.Gap.{PointFinite, ExactlyWithin}
use Rattle.patch.specs.declared.patch.Patch.{Patch}
use Rattle.patch.specs.declared.patch.Parameters.{Parameters}
use Rattle.patch.specs.Located.{Located}
use Rattle.patch.specs.Located.{point_a, point_b, located_of}
use Rattle.refusal.specs.declared.Refusal.{Refusal}
use Rattle.refusal.specs.declared.Refusal.TheVariants as refusal
use Rattle.refusal.specs.Refusal.{number_of}
use Rattle.refusal.specs.Verdict.{Verdict}
use Rattle.meeting.specs.declared.newton.Met.TheVariants as met
use Rattle.meeting.specs.Newton.{most_rounds, meet_of}
use Rattle.certificate.specs.Passes.{parameters_at, Passes}
use Rattle.certificate.specs.Check.{check_of}
use Rattle.refusal.specs.Verdict as verdict
use Rattle.groups.specs.Groups.{most_points}
use Rattle.groups.specs.Row.{numbers_of, row_at}
use Rattle.groups.specs.Traced.{TraceAnswer}
use Rattle.groups.specs.Traced.{closing_at, code_of, traced, outcome, count_of, start_of, closing_of}
use Rattle.groups.specs.Traced as trace
use Rattle.walk.specs.Trace.{call_fitness, trace_of}
use Rattle.boxes.specs.declared.boxtree.Aabb.{Aabb}
use Rattle.boxes.specs.Crossing.{Crossed}
use Rattle.boxes.specs.Counts.{Counts, Fit}
use Rattle.boxes.specs.Crosses.{grown_of}
use Rattle.boxes.specs.Crossing.{crossed_of, crossing_of}
use Rattle.boxes.specs.Crossing as crossing
use Rattle.boxes.specs.declared.explain.Reason.{Reason}
use Rattle.boxes.specs.declared.explain.Reason.TheVariants.{Segment, NoneMet}
use Rattle.boxes.specs.Explain.{Explained}
use Rattle.boxes.specs.Explain.{explain_of, value_of, stretch_of}
use Rattle.boxes.specs.Reasons.{Explains}
use Rattle.job.specs.declared.file.Job.{Job}
use Rattle.job.specs.File.{job_of}
use Rattle.trace_file.specs.Write.{Written}
use Rattle.trace_file.specs.Layout.{file_bytes, version1, width1}
use Rattle.trace_file.specs.Write.{filed, bytes_of, write_of}
use Rattle.trace_file.specs.Write as write
use Rattle.trace_file.specs.Read.{read_of}

-- ---- the promises

-- Point i of a trace: A's point and B's, worked out afresh at its parameters, are finite, so that all six coordinates are whole multiples of 2^-1074,
-- and "the exact squared gap is at most confusion squared times (1 + 2^-50)".
pub record ExactGap (a b : Patch) (tol : Tolerance) (l : List Float) (i : ℕ) : Type 0 where
  pub finite_a : PointFinite (point_a a (parameters_at l i))
  pub finite_b : PointFinite (point_b b (parameters_at l i))
  pub within : ExactlyWithin (point_a a (parameters_at l i)) (point_b b (parameters_at l i)) tol.confusion

-- "at every point"
abbrev pub ExactGaps : Patch → Patch → Tolerance → List Float → ℕ → Type 0
ExactGaps a b tol l count = (i : ℕ) → i < count → ExactGap a b tol l i

-- The bytes are a job file, and under its surfaces and tolerance the trace passes, with exact gaps.
pub record JobPasses (bytes : List ℕ) (l : List Float) (count start closing : ℕ) : Type 0 where
  pub job : Job
  pub read : job_of bytes ≡ Ok job
  pub passes : Passes job.a job.b job.tol l count start closing
  pub exact : ExactGaps job.a job.b job.tol l count

-- (02, A2) None of 1 to 8 refuses, and `meet` of the guess refuses with q.
pub record GuessUnmet (a b : Patch) (tol : Tolerance) (guess : Parameters) (cap : ℕ) (before : List Float) (q : Refusal) : Type 0 where
  pub fit : call_fitness a b tol guess cap before ≡ Ok tt
  pub meeting : meet_of a b guess tol ≡ met.Refused q

-- The bytes are a job file, and `meet` of its guess refuses so.
pub record JobUnmet (bytes : List ℕ) (before : List Float) (q : Refusal) : Type 0 where
  pub job : Job
  pub read : job_of bytes ≡ Ok job
  pub guess : GuessUnmet job.a job.b job.tol job.guess job.cap before q

-- ---- the contracts of the public calls

-- the point of a surface, or the refusal, is what 01's rules give
pub record PointPromise (patch : Patch) (u v : Float) (r : Located) : Type 0 where
  pub answer : r ≡ located_of patch u v

-- the line where two surfaces meet; `before` and `after` are the lent buffer
pub record TracePromise (a b : Patch) (tol : Tolerance) (guess : Parameters) (cap : ℕ) (before after : List Float) (r : TraceAnswer) : Type 0 where
  -- "The tracer's answer and buffer are what 01's rules give"
  pub answer : r ≡ (trace_of a b tol guess cap before).answer
  pub buffer : after ≡ (trace_of a b tol guess cap before).buffer
  -- "every trace it returns passes the check": the conditions hold, the check says so, and the exact gaps are small
  pub passes : trace.refusal_of r ≡ 0 → Passes a b tol after (count_of r) (start_of r) (closing_of r)
  pub checked : trace.refusal_of r ≡ 0 → verdict.refusal_of (check_of a b tol after (count_of r) (start_of r) (closing_of r)) ≡ 0
  pub exact : trace.refusal_of r ≡ 0 → ExactGaps a b tol after (count_of r)
  -- (02, A2, A3) 9 or 21 is the answer exactly when `meet` of the guess answers so, with its round and, beside 21, its column
  pub unmet : (i : ℕ) → r ≡ Err (refusal.NoMeeting i) → GuessUnmet a b tol guess cap before (refusal.NoMeeting i)
  pub singular : (i col : ℕ) → r ≡ Err (refusal.Singular i col) → GuessUnmet a b tol guess cap before (refusal.Singular i col)
  pub handed_on : (q : Refusal) → GuessUnmet a b tol guess cap before q → r ≡ Err q
  -- the round is at most 32 beside 9 and at most 31 beside 21
  pub rounds : (i : ℕ) → (r ≡ Err (refusal.NoMeeting i) → i ≤ most_rounds) × ((col : ℕ) → r ≡ Err (refusal.Singular i col) → i < most_rounds)
  -- the column is that of a coordinate: x, y or z
  pub columns : (i col : ℕ) → r ≡ Err (refusal.Singular i col) → col < 3

-- the check of the first `count` points of a list
pub record CheckPromise (a b : Patch) (tol : Tolerance) (l : List Float) (count start closing : ℕ) (r : Verdict) : Type 0 where
  pub answer : r ≡ check_of a b tol l count start closing
  -- "A check passes a trace exactly when 01's conditions hold": it passes no other trace, and it passes every such trace
  pub passes : verdict.refusal_of r ≡ 0 → Passes a b tol l count start closing
  pub complete : Passes a b tol l count start closing → verdict.refusal_of r ≡ 0
  -- "At every point of a passing trace the exact squared gap is at most confusion² (1 + 2^-50)"
  pub exact : verdict.refusal_of r ≡ 0 → ExactGaps a b tol l count

-- whether the first `count` points of a list cross a box
pub record CrossingPromise (tol : Tolerance) (l : List Float) (count : ℕ) (box : Aabb) (r : Crossed) : Type 0 where
  pub answer : r ≡ crossing_of tol l count box
  -- yes exactly when nothing refuses and some segment counts
  pub counts : crossed_of r ≡ true → Fit tol l count box × ((i : ℕ) × Counts l count (grown_of box tol.confusion) i)
  pub complete : Fit tol l count box → (i : ℕ) → Counts l count (grown_of box tol.confusion) i → crossed_of r ≡ true

-- why the first `count` points of a list cross a box, or why not
pub record ExplainPromise (tol : Tolerance) (l : List Float) (count : ℕ) (box : Aabb) (r : Explained) : Type 0 where
  pub answer : r ≡ explain_of tol l count box
  -- "For every trace and box the answer is proved to be the one that rule gives": where nothing refuses, the reason that holds and that no other
  -- which holds is named before; and it is that reason
  pub rule : (q : Reason) → r ≡ Ok q → Fit tol l count box × Explains l count (grown_of box tol.confusion) q
  pub complete : Fit tol l count box → (q : Reason) → Explains l count (grown_of box tol.confusion) q → r ≡ Ok q
  -- "The first call's refusals and their order are the crossing's"
  pub refused : crossing.refusal_of r ≡ crossing.refusal_of (crossing_of tol l count box)
  -- a segment is named exactly where the crossing says yes
  pub crosses : (i : ℕ) → r ≡ Ok (Segment i) → crossed_of (crossing_of tol l count box) ≡ true
  pub named : crossed_of (crossing_of tol l count box) ≡ true → (i : ℕ) × (r ≡ Ok (Segment i))
  -- the value beside a reason lies below the count of points, so that it has a place in a word; a count of segments is 1 at least
  pub below : (q : Reason) → r ≡ Ok q → (value_of q < count) × (count ≤ most_points)
  pub some : (n : ℕ) → r ≡ Ok (NoneMet n) → 1 ≤ n

-- the stretch of the lent trace that crosses a box
pub record StretchPromise (tol : Tolerance) (l : List Float) (count : ℕ) (box : Aabb) (stretch : List Float) : Type 0 where
  pub answer : stretch ≡ stretch_of tol l count box
  -- "made of that segment's two points": the numbers of point i, then those of the next
  pub points : (i : ℕ) → explain_of tol l count box ≡ Ok (Segment i) → stretch ≡ numbers_of (row_at l i) ++ numbers_of (row_at l (i + 1))
  -- "where there is no such segment, or the first call refuses, it is empty"
  pub empty : crossed_of (crossing_of tol l count box) ≡ false → stretch ≡ []

-- a trace written to a file of a version with w numbers a point; `before` and `after` are the lent bytes
pub record WritePromise (version w : ℕ) (l : List Float) (count start closing : ℕ) (before after : List ℕ) (r : Written) : Type 0 where
  pub answer : r ≡ (write_of version w l count start closing before).answer
  pub file : after ≡ (write_of version w l count start closing before).file
  -- "Reading what was written, into room enough, returns the trace bit for bit"
  pub reads_back : write.refusal_of r ≡ 0 → (t : List Float) → w * count ≤ length t
      → read_of version w (take (bytes_of r) after) t ≡ outcome (traced count start (closing_at closing)) (written (take (w * count) l) t)
  -- with the code that was handed over
  pub same_code : write.refusal_of r ≡ 0 → code_of (closing_at closing) ≡ closing

-- the same for version 1, which has the numbers of a trace that the check reads
pub record WriteV1Promise (l : List Float) (count start closing : ℕ) (before after : List ℕ) (r : Written) : Type 0 where
  pub writes : WritePromise version1 width1 l count start closing before after r
  -- a trace that passes the check is written where there is room, and refused by 8 where there is not
  pub passing : (a b : Patch) (tol : Tolerance) → Passes a b tol l count start closing
      → write.refusal_of r ≡ pick (leb (file_bytes width1 count) (length before)) 0 (number_of refusal.Lent)

-- the trace of a file of a version with w numbers a point; `before` and `after` are the lent numbers
pub record ReadPromise (version w : ℕ) (file : List ℕ) (before after : List Float) (r : TraceAnswer) : Type 0 where
  pub answer : r ≡ (read_of version w file before).answer
  pub buffer : after ≡ (read_of version w file before).buffer
  -- "only one file stands for a trace": a file that reads, written again, is that file, and no other file reads as the same trace
  pub writes_back : trace.refusal_of r ≡ 0 → (t : List ℕ) → length file ≤ length t
      → write_of version w after (count_of r) (start_of r) (closing_of r) t ≡ filed (Ok (length file)) (written file t)
  pub only : trace.refusal_of r ≡ 0 → (other : List ℕ) → AllBytes other → read_of version w other before ≡ outcome r after → other ≡ file
