-- 9 and 21 are the seed's alone: the tests before them have 1 to 8, and what follows a meeting has 10, 11 or a line.
use Rattle.geometry.specs.declared.vector.Vector3D.{Vector3D}
use Rattle.std.specs.Prelude.{Ok, Err, Some, None, Option}
use mathlib.Core.Path.{◌≡◌, refl, sym, ap}
use mathlib.Core.Bool.{Bool, true, false}
use mathlib.Core.List.{List, ◌++◌}
use Prim.Native.Nat.{ℕ, ◌+◌, ◌*◌, ◌-◌, ◌≤◌, ◌<◌}
use native.Mathlib.Omega.{arith}
use lib.Dec.{leb}
use lib.Ieee.{Float}
use lib.ListN.{length, replicate}
use Rattle.loops.specs.Loop.{pick}
use Rattle.number.specs.Helpers.{positive_zero}
use Rattle.groups.specs.Groups.{width, least_points, holds_of}
use Rattle.groups.specs.Traced.{traced, TraceAnswer}
use Rattle.groups.specs.Traced.{outcome, refusal_of}
use Rattle.refusal.specs.declared.Refusal.{Refusal}
use Rattle.refusal.specs.declared.Refusal.TheVariants as refusal
use Rattle.refusal.specs.Verdict.{Verdict}
use Rattle.refusal.specs.Refusal.{number_of}
use Rattle.refusal.specs.Verdict as verdicts
use Rattle.refusal.proofs.Order.{first_each, asked_each}
use Rattle.geometry.specs.declared.tolerance.Tolerance.{Tolerance}
use Rattle.patch.specs.declared.patch.Patch.{Patch}
use Rattle.patch.specs.declared.patch.Parameters.{Parameters}
use Rattle.patch.proofs.Fitness.{pair_each}
use Rattle.meeting.specs.declared.newton.Met.{Met}
use Rattle.meeting.specs.declared.newton.Met.TheVariants as met
use Rattle.meeting.specs.Newton.{meet_of}
use Rattle.tangent.specs.Tangent.{tangent_of}
use Rattle.walk.specs.Lent.{own_row, rows_of}
use Rattle.walk.specs.Line.{line_of}
use Rattle.walk.specs.Line as line
use Rattle.walk.specs.Trace.{guess_finite, cap_fits, call_tests, call_fitness, room, settled, after_direction, after_seed, walk_of, after_call, trace_of}

-- a refusal is told by its answer
abbrev refusal_in : Refusal → TraceAnswer → Refusal
refusal_in d (Ok t) = d
refusal_in d (Err r) = r

refused_same : {p q : Refusal} → ◌≡◌ {A = TraceAnswer} (Err p) (Err q) → p ≡ q
refused_same {p} e = ap (refusal_in p) e

-- the number's place is behind 8, and it is neither 10 nor 11
pub record Seeds (q : Refusal) : Type 0 where
  pub behind : 8 < number_of q
  pub not_ten : number_of q ≡ 10 → ⊥
  pub not_eleven : number_of q ≡ 11 → ⊥

pub unmet_seeds : (i : ℕ) → Seeds (refusal.NoMeeting i)
unmet_seeds i = record { behind = omega arith; not_ten = λ z. omega (arith, z); not_eleven = λ z. omega (arith, z) }

pub singular_seeds : (i col : ℕ) → Seeds (refusal.Singular i col)
singular_seeds i col = record { behind = omega arith; not_ten = λ z. omega (arith, z); not_eleven = λ z. omega (arith, z) }

module _ (a b : Patch) (tol : Tolerance) (n : ℕ) (q : Refusal) (s : Seeds q) where
  settled_other : (m : line.Line) → (settled (own_row a) n m).answer ≡ Err q → ⊥
  unfolding settled
  settled_other m = go (leb least_points (length m.points))
    where
      go : (t : Bool) → (pick t (outcome (traced (length m.points) m.start m.closing) (rows_of (own_row a) m.points ++ replicate (room n - width * length m.points) positive_zero))
          (outcome (Err refusal.TooShort) (replicate (room n) positive_zero))).answer ≡ Err q → ⊥
      go true e = let z = ap refusal_of e in let h = s.behind in omega (arith, z, h)
      go false e = s.not_eleven (sym (ap refusal_of e))

  direction_other : (x : Parameters) (d : Option Vector3D) → (after_direction a b tol n x d).answer ≡ Err q → ⊥
  direction_other x (Some t) e = settled_other (line_of a b tol x t n) e
  direction_other x None e = s.not_ten (sym (ap refusal_of e))

  seed_told : (m : Met) → (after_seed a b tol n m).answer ≡ Err q → m ≡ met.Refused q
  seed_told (met.At x) e = absurd (direction_other x (tangent_of a b x tol) e)
  seed_told (met.Refused r) e = ap met.Refused (refused_same e)

module _ (a b : Patch) (tol : Tolerance) (guess : Parameters) (n : ℕ) (l : List Float) where
  -- the tests refuse with 1 to 8
  abbrev Early : Verdict → Type 0
  Early v = verdicts.refusal_of v ≤ 8

  call_early : Early (call_fitness a b tol guess n l)
  unfolding call_fitness
  call_early =
      first_each Early (call_tests a b tol guess n l) (
        pair_each Early (omega arith) (omega arith) (omega arith) (omega arith) (omega arith) (omega arith) a b tol,
        λ p. (
          asked_each Early (guess_finite guess) refusal.Parameter (omega arith) (omega arith),
          λ g. (
            asked_each Early (cap_fits n) refusal.StepCap (omega arith) (omega arith),
            λ c.
                (asked_each Early (holds_of width l (2 * n + 1)) refusal.Lent (omega arith) (omega arith), λ h. omega arith),
          ),
        ),
      )

  -- what `meet` of the guess refuses, where no test refuses, is the answer
  pub unmet_answer : (q : Refusal) → call_fitness a b tol guess n l ≡ Ok tt → meet_of a b guess tol ≡ met.Refused q → (trace_of a b tol guess n l).answer ≡ Err q
  unfolding trace_of walk_of
  unmet_answer q f m = rw (f, m)

  -- and such an answer comes of nothing else
  pub answer_unmet : (q : Refusal) → Seeds q → (trace_of a b tol guess n l).answer ≡ Err q
      → (call_fitness a b tol guess n l ≡ Ok tt) × (meet_of a b guess tol ≡ met.Refused q)
  unfolding trace_of walk_of
  answer_unmet q s = go (call_fitness a b tol guess n l) refl call_early
    where
      go : (v : Verdict) → call_fitness a b tol guess n l ≡ v → Early v → (after_call a b tol guess n l v).answer ≡ Err q
          → (call_fitness a b tol guess n l ≡ Ok tt) × (meet_of a b guess tol ≡ met.Refused q)
      go (Err p) f h e = absurd (let z = ap refusal_of e in let k = s.behind in omega (arith, h, z, k))
      go (Ok u) f h e = (f, seed_told a b tol n q s (meet_of a b guess tol) e)
