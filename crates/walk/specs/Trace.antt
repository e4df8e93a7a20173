-- The call: its refusals, its answer and the lent buffer after it. Definitions only.
use Rattle.geometry.specs.declared.vector.Vector3D.{Vector3D}
use Rattle.std.specs.Prelude.{Bool, ◌&&◌, List, [], ◌∷◌, ◌++◌, ℕ, ◌+◌, ◌*◌, ◌-◌, leb, Float, length, take, drop, replicate, Ok, Err, Some, None, Option}
use Rattle.std.specs.Float.Ieee.Scale.{finite}
use Rattle.loops.specs.Loop.{pick}
use Rattle.groups.specs.Groups.{width, least_points, holds_of}
use Rattle.groups.specs.declared.traced.Closing.{Closing}
use Rattle.groups.specs.declared.row.Row.{Row}
use Rattle.groups.specs.Traced.{TraceAnswer}
use Rattle.groups.specs.Traced.{traced, Outcome, outcome}
use Rattle.number.specs.Helpers.{positive_zero}
use Rattle.refusal.specs.declared.Refusal.{Refusal}
use Rattle.refusal.specs.declared.Refusal.TheVariants as refusal
use Rattle.geometry.specs.declared.tolerance.Tolerance.{Tolerance}
use Rattle.patch.specs.declared.patch.Patch.{Patch}
use Rattle.patch.specs.declared.patch.Parameters.{Parameters}
use Rattle.refusal.specs.Verdict.{Verdict}
use Rattle.refusal.specs.Verdict.{asked, first_refusal}
use Rattle.patch.specs.Pair.{pair_fitness}
use Rattle.meeting.specs.declared.newton.Met.{Met}
use Rattle.meeting.specs.declared.newton.Met.TheVariants as met
use Rattle.tangent.specs.Tangent.{tangent_of}
use Rattle.meeting.specs.Newton.{meet_of}
use Rattle.walk.specs.Lent.{own_row, rows_of}
use Rattle.walk.specs.Line.{line_of}
use Rattle.walk.specs.Line as line

-- ---- refusals 1 to 8

-- 6: "a guess or parameter that is not finite"
unfoldable pub guess_finite : Parameters → Bool
guess_finite x = finite x.u1 && (finite x.v1 && (finite x.u2 && finite x.v2))

-- 7: "step cap n outside 2 to 2000"
abbrev pub least_steps : ℕ
least_steps = 2

abbrev pub most_steps : ℕ
most_steps = 2000

unfoldable pub cap_fits : ℕ → Bool
cap_fits n = leb least_steps n && leb n most_steps

-- "Trace: 1 to 4 for A, the same for B, then 5 to 11": 1 to 8 of them. 8: "fewer than 7(2n+1) numbers lent"
abbrev pub call_tests : Patch → Patch → Tolerance → Parameters → ℕ → List Float → List Verdict
call_tests a b tol guess n l =
    pair_fitness a b tol
    ∷ asked (guess_finite guess) refusal.Parameter
    ∷ asked (cap_fits n) refusal.StepCap
    ∷ asked (holds_of width l (2 * n + 1)) refusal.Lent
    ∷ []

unfoldable pub call_fitness : Patch → Patch → Tolerance → Parameters → ℕ → List Float → Verdict
call_fitness a b tol guess n l = first_refusal (call_tests a b tol guess n l)

-- ---- the walk, in the first 7(2n+1) numbers

-- 7(2n+1)
abbrev pub room : ℕ → ℕ
room n = width * (2 * n + 1)

-- "Refusals 9, 10 and 11 leave its first 7(2n+1) numbers positive zero."; 02, A2: "Buffer rules for 9 cover the split number"
abbrev pub refused_walk : Refusal → ℕ → Outcome
refused_walk r n = outcome (Err r) (replicate (room n) positive_zero)

-- 11: "fewer than 4 points"; "Success puts seven numbers a point first"; "zeros follow up to 7(2n+1)": here up to `size`
abbrev pub line_or_refused : ℕ → ℕ → Closing → List Float → ℕ → Outcome
line_or_refused count start closing rows size =
    pick (leb least_points count) (outcome (traced count start closing) (rows ++ replicate (size - width * count) positive_zero))
    (outcome (Err refusal.TooShort) (replicate size positive_zero))

-- of a list that begins with the line's points
unfoldable pub finished_of : ℕ → ℕ → Closing → List Float → Outcome
finished_of count start closing l = line_or_refused count start closing (take (width * count) l) (length l)

-- of a line's points
unfoldable pub settled : (Parameters → Row) → ℕ → line.Line → Outcome
settled row n found = line_or_refused (length found.points) found.start found.closing (rows_of row found.points) (room n)

-- 10: "no direction at the meeting"
abbrev pub after_direction : Patch → Patch → Tolerance → ℕ → Parameters → Option Vector3D → Outcome
after_direction a b tol n x (Some t) = settled (own_row a) n (line_of a b tol x t n)
after_direction a b tol n x None = refused_walk refusal.NoDirection n

-- the answer where no walk begins: the meeting's refusal; a meeting alone is one point, and so has "fewer than 4 points"
abbrev pub unwalked_of : Met → TraceAnswer
unwalked_of (met.At x) = Err refusal.TooShort
unwalked_of (met.Refused r) = Err r

-- 9: "the guess leads to no meeting"; "a caller goes on only with it, else 9"; 02, A2: "21, in the place of 9, when a solve gave up"
abbrev pub after_seed : Patch → Patch → Tolerance → ℕ → Met → Outcome
after_seed a b tol n (met.At x) = after_direction a b tol n x (tangent_of a b x tol)
after_seed a b tol n (met.Refused r) = refused_walk r n

-- "The seed must be met first": from the guess, by `meet` without a plane
unfoldable pub walk_of : Patch → Patch → Tolerance → Parameters → ℕ → Outcome
walk_of a b tol guess n = after_seed a b tol n (meet_of a b guess tol)

-- ---- the call: "refusals before 9 touch nothing"; "beyond that nothing changes"

-- a refusal of 1 to 8, or what the walk answers and leaves
abbrev pub after_call : Patch → Patch → Tolerance → Parameters → ℕ → List Float → Verdict → Outcome
after_call a b tol guess n l (Err r) = outcome (Err r) l
after_call a b tol guess n l (Ok u) = outcome (walk_of a b tol guess n).answer ((walk_of a b tol guess n).buffer ++ drop (room n) l)

-- the call: its answer, and the whole buffer after it
unfoldable pub trace_of : Patch → Patch → Tolerance → Parameters → ℕ → List Float → Outcome
trace_of a b tol guess n l = after_call a b tol guess n l (call_fitness a b tol guess n l)
