-- What a call that writes numbers answers, and the parts of an answer's word (include/geomcore.h). Definitions only.
use Rattle.std.specs.Prelude.{List, ℕ, ◌/◌, ◌%◌, ◌^◌, Float}

-- the answer's word, and the lent numbers afterwards
pub record Answer : Type 0 where
  pub word : ℕ
  pub numbers : List Float

-- the two as one
abbrev pub answered : ℕ → List Float → Answer
answered w l = record { word = w; numbers = l }

-- the low byte of a word: the refusal's number, 0 if none
abbrev pub number_in : ℕ → ℕ
number_in w = w % 2 ^ 8

-- the byte above it: the closing code
abbrev pub closing_in : ℕ → ℕ
closing_in w = w / 2 ^ 8 % 2 ^ 8

-- the same byte of a crossing: 1 if the box is crossed
abbrev pub crossed_in : ℕ → ℕ
crossed_in w = w / 2 ^ 8 % 2 ^ 8

-- the same byte of an explanation: the kind of reason
abbrev pub kind_in : ℕ → ℕ
kind_in w = w / 2 ^ 8 % 2 ^ 8

-- the upper four bytes of an explanation: the value beside the kind
abbrev pub value_in : ℕ → ℕ
value_in w = w / 2 ^ 32

-- the same byte of a walk that is refused: the Newton round beside 9 and 21
abbrev pub round_in : ℕ → ℕ
round_in w = w / 2 ^ 8 % 2 ^ 8

-- the two bytes above that: the start's index
abbrev pub start_in : ℕ → ℕ
start_in w = w / 2 ^ 16 % 2 ^ 16

-- the same two bytes of a walk that is refused: the column beside 21
abbrev pub column_in : ℕ → ℕ
column_in w = w / 2 ^ 16 % 2 ^ 16

-- the four bytes above that: the count of points
abbrev pub count_in : ℕ → ℕ
count_in w = w / 2 ^ 32

-- the same four bytes of the writer's word: how many bytes it wrote
abbrev pub bytes_in : ℕ → ℕ
bytes_in w = w / 2 ^ 32
