-- Every line that the call answers passes, in the buffer that it leaves.
use Rattle.geometry.specs.declared.vector.Vector3D.{Vector3D}
use Rattle.std.specs.Prelude.{Ok, Err, Some, None, Option}
use mathlib.Core.Path.{◌≡◌, refl}
use mathlib.Core.Bool.{Bool, true, false}
use mathlib.Core.List.{List, ◌++◌, append_assoc}
use Prim.Native.Nat.{ℕ, ◌-◌, ◌*◌}
use native.Mathlib.Omega.{arith}
use borrow.Author.Tests.{leb-true}
use lib.Dec.{leb}
use lib.Ieee.{Float}
use lib.ListN.{length, drop, replicate}
use Rattle.loops.specs.Loop.{pick}
use Rattle.number.specs.Helpers.{positive_zero}
use Rattle.groups.specs.Groups.{width, least_points}
use Rattle.refusal.specs.declared.Refusal.TheVariants as refusal
use Rattle.refusal.specs.Verdict.{Verdict}
use Rattle.refusal.proofs.Laws.{number_positive}
use Rattle.geometry.specs.declared.tolerance.Tolerance.{Tolerance}
use Rattle.patch.specs.declared.patch.Patch.{Patch}
use Rattle.patch.specs.declared.patch.Parameters.{Parameters}
use Rattle.meeting.specs.declared.newton.Met.{Met}
use Rattle.meeting.specs.declared.newton.Met.TheVariants as met
use Rattle.meeting.specs.Newton.{meet_of}
use Rattle.tangent.specs.Tangent.{tangent_of}
use Rattle.meeting.specs.Intersection.{IsIntersection}
use Rattle.meeting.proofs.Intersection.{meet_intersects}
use Rattle.certificate.specs.Passes.{Passes}
use Rattle.walk.specs.Lent.{own_row, rows_of}
use Rattle.walk.specs.Line.{line_of}
use Rattle.walk.specs.Line as line
use Rattle.groups.specs.Traced.{code_of, traced, Outcome, outcome, refusal_of, count_of, start_of, closing_of}
use Rattle.walk.specs.Trace.{call_fitness, room, settled, after_direction, after_seed, walk_of, after_call, trace_of}
use Rattle.groups.specs.Traced.{TraceAnswer}
use Rattle.walk.proofs.Calls.{CallFit, call_fit}
use Rattle.passing.proofs.Lines.{LineFine, line_fine}
use Rattle.passing.proofs.Rows.{line_passes}

-- the trace that an answer tells of, at the front of a list, passes
abbrev AnswerPasses : Patch → Patch → Tolerance → TraceAnswer → List Float → Type 0
AnswerPasses a b tol r l = refusal_of r ≡ 0 → Passes a b tol l (count_of r) (start_of r) (closing_of r)

-- ---- a fit call

module _ {a b : Patch} {tol : Tolerance} {n : ℕ} {l : List Float} (f : CallFit a b tol n l) where
  abbrev Passing : Outcome → Type 0
  Passing o = AnswerPasses a b tol o.answer (o.buffer ++ drop (room n) l)

  settled_passing : (x : Parameters) (m : line.Line) → LineFine a b tol.confusion x n m.points m.start (code_of m.closing) → Passing (settled (own_row a) n m)
  unfolding settled
  settled_passing x m v = go (leb least_points (length m.points)) refl
    where
      rows : List Float
      rows = rows_of (own_row a) m.points

      zeros : List Float
      zeros = replicate (room n - width * length m.points) positive_zero

      go : (t : Bool) → leb least_points (length m.points) ≡ t
          → Passing (pick t (outcome (traced (length m.points) m.start m.closing) (rows ++ zeros)) (outcome (Err refusal.TooShort) (replicate (room n) positive_zero)))
      go true e q = rw (append_assoc rows zeros (drop (room n) l)) (line_passes f x v (zeros ++ drop (room n) l) (leb-true least_points (length m.points) e))
      go false e q = absurd (let z : ⊥ = omega arith in z)

  direction_passing : (x : Parameters) → IsIntersection a b tol.confusion x → (d : Option Vector3D) → Passing (after_direction a b tol n x d)
  direction_passing x g (Some t) = settled_passing x (line_of a b tol x t n) (line_fine a b tol f.tolerance x g t n)
  direction_passing x g None = λ q. absurd (let z : ⊥ = omega arith in z)

  seed_passing : (guess : Parameters) (m : Met) → meet_of a b guess tol ≡ m → Passing (after_seed a b tol n m)
  seed_passing guess (met.At x) e = direction_passing x (meet_intersects a b tol f.tolerance guess x e) (tangent_of a b x tol)
  seed_passing guess (met.Refused r) e = λ q. absurd (let h = number_positive r in let z : ⊥ = omega arith in z)

  walk_passing : (guess : Parameters) → Passing (walk_of a b tol guess n)
  unfolding walk_of
  walk_passing guess = seed_passing guess (meet_of a b guess tol) refl

-- ---- the call

-- STATEMENT 4: whatever surfaces, tolerance, guess, step cap and buffer `trace` is given, if nothing is refused then the buffer after the call
-- passes with the count, the start and the closing answered.
pub trace_passes : (a b : Patch) (tol : Tolerance) (guess : Parameters) (n : ℕ) (l : List Float)
    → AnswerPasses a b tol (trace_of a b tol guess n l).answer (trace_of a b tol guess n l).buffer
unfolding trace_of
trace_passes a b tol guess n l = go (call_fitness a b tol guess n l) refl
  where
    go : (v : Verdict) → call_fitness a b tol guess n l ≡ v → AnswerPasses a b tol (after_call a b tol guess n l v).answer (after_call a b tol guess n l v).buffer
    go (Err r) k = λ q. absurd (let h = number_positive r in let z : ⊥ = omega arith in z)
    go (Ok u) k = walk_passing (call_fit guess k) guess
