-- The line that answers a job, as ASCII bytes. Definitions only.
use Rattle.std.specs.Prelude.{List, [], ◌∷◌, ◌++◌, ℕ, zero, suc, ◌+◌, ◌*◌, ◌-◌, ◌/◌, ◌%◌, ltb}
use Rattle.loops.specs.Loop.{pick}

-- the byte of a digit
abbrev pub digit_of : ℕ → ℕ
digit_of d = 48 + d

-- the digits of n in front of a tail: at least one, at most k
unfoldable pub spell : ℕ → ℕ → List ℕ → List ℕ
spell zero n tail = tail
spell (suc k) n tail = pick (ltb n 10) (digit_of (n % 10) ∷ tail) (spell k (n / 10) (digit_of (n % 10) ∷ tail))

-- "in decimal": a number below 2^64 has at most 20 digits
unfoldable pub decimal_of : ℕ → List ℕ
decimal_of n = spell 20 n []

-- the number that digits stand for, behind a number whose digits stand before them
unfoldable pub value_of : List ℕ → ℕ → ℕ
value_of [] a = a
value_of (d ∷ ds) a = value_of ds (a * 10 + (d - 48))

-- between two numbers
abbrev pub space : List ℕ
space = 32 ∷ []

-- "It writes one line": its end
abbrev pub newline : List ℕ
newline = 10 ∷ []

-- `trace`, a space
abbrev pub trace_word : List ℕ
trace_word = 116 ∷ 114 ∷ 97 ∷ 99 ∷ 101 ∷ 32 ∷ []

-- `refused`, a space
abbrev pub refused_word : List ℕ
refused_word = 114 ∷ 101 ∷ 102 ∷ 117 ∷ 115 ∷ 101 ∷ 100 ∷ 32 ∷ []

-- "`trace`, count, start index, code in decimal"
unfoldable pub trace_line : ℕ → ℕ → ℕ → List ℕ
trace_line count start code = trace_word ++ (decimal_of count ++ (space ++ (decimal_of start ++ (space ++ (decimal_of code ++ newline)))))

-- "or `refused` and the number"
unfoldable pub refused_line : ℕ → List ℕ
refused_line number = refused_word ++ (decimal_of number ++ newline)
