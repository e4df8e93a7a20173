-- What is answered of a trace in a lent list, and the list with it. Definitions only.
use Rattle.std.specs.Prelude.{◌≡◌, ◌<◌, ◌&&◌, List, ℕ, eqb, ltb, leb, Float, Option, Some, None, Result, Ok, Err, MatchResult}
use Rattle.loops.specs.Loop.{pick}
use Rattle.refusal.specs.declared.Refusal.{Refusal}
use Rattle.refusal.specs.Refusal.{number_of}
use Rattle.refusal.specs.Refusal as refusal
use Rattle.groups.specs.Groups.{count_fits}
use Rattle.groups.specs.declared.traced.Closing.{Closing}
use Rattle.groups.specs.declared.traced.UnknownCode.{UnknownCode}
use Rattle.groups.specs.declared.traced.Closing.TheVariants.{Open, Forward, Backward}
use Rattle.groups.specs.declared.traced.Traced.{Traced}
use Rattle.groups.specs.declared.traced.Claim.{Claim}

-- "the closing code: 0 open, 1 closed forward, 2 closed backward"
abbrev pub code_of : Closing → ℕ
code_of Open = 0
code_of Forward = 1
code_of Backward = 2

-- not "a code above 2"
abbrev pub greatest_code : ℕ
greatest_code = 2

-- the closing of a code; a "closing code above 2" is refused, and counts as 2 here
abbrev pub closing_at : ℕ → Closing
closing_at code = pick (eqb code 0) Open (pick (eqb code 1) Forward Backward)

-- the closing of this code, or an error for a "closing code above 2"
abbrev pub Decodes : ℕ → Result Closing UnknownCode → Type 0
Decodes n r = MatchResult r (λ c. code_of c ≡ n) (λ e. greatest_code < n)

-- the closing claimed, but for a "count outside 4 to 4001, start index not below the count, closing code above 2"
abbrev pub closing_in : Claim → Option Closing
closing_in q = pick (count_fits q.count && (ltb q.start q.count && leb q.code greatest_code)) (Some (closing_at q.code)) None

-- what a trace claims of itself: its own count, start and code
abbrev pub claim_of : Traced → Claim
claim_of line = record { count = line.count; start = line.start; code = code_of line.closing }

-- the trace, or why it is refused
abbrev pub TraceAnswer : Type 0
TraceAnswer = Result Traced Refusal

-- "The answer holds the count, the start's index and the closing code"
abbrev pub traced : ℕ → ℕ → Closing → TraceAnswer
traced count start closing = Ok (record { count = count; start = start; closing = closing })

-- an answer and what the buffer holds with it
pub record Outcome : Type 0 where
  pub answer : TraceAnswer
  pub buffer : List Float

-- the two as one
abbrev pub outcome : TraceAnswer → List Float → Outcome
outcome r l = record { answer = r; buffer = l }

-- "A refusal is its number alone"; 0 where there is none
abbrev pub refusal_of : TraceAnswer → ℕ
refusal_of (Ok t) = 0
refusal_of (Err r) = number_of r

-- "The answer holds the count, the start's index and the closing code": the count
abbrev pub count_of : TraceAnswer → ℕ
count_of (Ok t) = t.count
count_of (Err r) = 0

-- the start's index
abbrev pub start_of : TraceAnswer → ℕ
start_of (Ok t) = t.start
start_of (Err r) = 0

-- 02, A2: the Newton round beside 9 or 21
abbrev pub round_of : TraceAnswer → ℕ
round_of (Ok t) = 0
round_of (Err r) = refusal.round_of r

-- 02, A3: the column beside 21
abbrev pub column_of : TraceAnswer → ℕ
column_of (Ok t) = 0
column_of (Err r) = refusal.column_of r

-- the closing code
abbrev pub closing_of : TraceAnswer → ℕ
closing_of (Ok t) = code_of t.closing
closing_of (Err r) = 0
