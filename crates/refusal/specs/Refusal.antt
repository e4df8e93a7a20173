-- The numbers of document 01's refusals ("A refusal is its number alone; 13 to 16 add the index of the point"), and of 02's. Definitions only.
use Rattle.std.specs.Prelude.{ℕ}
use Rattle.refusal.specs.declared.Numbers.{Numbers}
use Rattle.refusal.specs.declared.Refusal.{Refusal}
use Rattle.refusal.specs.declared.Refusal.TheVariants.{Number, Size, Window, TurnMark, Tolerance, Parameter, StepCap, Lent, NoMeeting, Singular, NoDirection, TooShort}
use Rattle.refusal.specs.declared.Refusal.TheVariants.{Claim, NotOwnPoint, OutsideWindow, Gap, Chord, BoxNumber, Coordinate, JobFile, TraceFile}

-- "A refusal is its number alone"
abbrev pub alone : ℕ → Numbers
alone n = record { number = n; index = 0; round = 0; column = 0 }

-- "13 to 16 add the index of the point", from 0
abbrev pub of_point : ℕ → ℕ → Numbers
of_point n i = record { number = n; index = i; round = 0; column = 0 }

-- 02, A2: "beside 9 or 21 only, in which Newton round, from 0, they gave up"
abbrev pub in_round : ℕ → ℕ → Numbers
in_round n i = record { number = n; index = 0; round = i; column = 0 }

-- 02, A3: "the column, from 0, at which they did .. beside 21"
abbrev pub in_column : ℕ → ℕ → ℕ → Numbers
in_column n i col = record { number = n; index = 0; round = i; column = col }

-- "Who can cause a refusal", in its order
abbrev pub numbers_of : Refusal → Numbers
numbers_of Number = alone 1
numbers_of Size = alone 2
numbers_of Window = alone 3
numbers_of TurnMark = alone 4
numbers_of Tolerance = alone 5
numbers_of Parameter = alone 6
numbers_of StepCap = alone 7
numbers_of Lent = alone 8
numbers_of (NoMeeting i) = in_round 9 i
numbers_of NoDirection = alone 10
numbers_of TooShort = alone 11
numbers_of Claim = alone 12
numbers_of (NotOwnPoint i) = of_point 13 i
numbers_of (OutsideWindow i) = of_point 14 i
numbers_of (Gap i) = of_point 15 i
numbers_of (Chord i) = of_point 16 i
numbers_of BoxNumber = alone 17
numbers_of Coordinate = alone 18
numbers_of JobFile = alone 19
-- 02, A1: "New numbers, here and later, join document 01's list"
numbers_of TraceFile = alone 20
-- 02, A2: "21, in the place of 9, when a solve gave up"
numbers_of (Singular i col) = in_column 21 i col

-- the number
abbrev pub number_of : Refusal → ℕ
number_of r = (numbers_of r).number

-- the index of the point; 0 for all but 13 to 16
abbrev pub index_of : Refusal → ℕ
index_of r = (numbers_of r).index

-- the Newton round; 0 for all but 9 and 21
abbrev pub round_of : Refusal → ℕ
round_of r = (numbers_of r).round

-- the column; 0 for all but 21
abbrev pub column_of : Refusal → ℕ
column_of r = (numbers_of r).column
