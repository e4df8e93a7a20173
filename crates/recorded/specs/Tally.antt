-- What a replay counts, and the text that says it. Definitions only.
use Rattle.std.specs.Prelude.{ℕ, ◌+◌, ◌%◌, ◌^◌, Bool, true, false, List, [], ◌++◌, codes, decimal, Option, None, Some}
use Rattle.std.specs.Option.{option_or}
use Rattle.recorded.specs.declared.tally.Tally.{Tally}

-- one record more; the first that differs keeps its place in the list
abbrev pub counted_of : Tally → Bool → Tally
counted_of t true = record { compared = (t.compared + 1) % 2 ^ 64; differ = t.differ; first = t.first }
counted_of t false = record { compared = (t.compared + 1) % 2 ^ 64; differ = (t.differ + 1) % 2 ^ 64; first = option_or t.first (Some t.compared) }

-- the first that differs is told where there is one
abbrev pub first_said : Option ℕ → List ℕ
first_said None = []
first_said (Some k) = codes ", the first at " ++ decimal k

-- what the line of a list says
abbrev pub said_of : Tally → List ℕ
said_of t = decimal t.compared ++ (codes " compared, " ++ (decimal t.differ ++ (codes " differ" ++ first_said t.first)))
