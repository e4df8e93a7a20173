-- Searches as functions: the first index of a range at which a test holds, and at how many it does. Definitions only.
use Rattle.std.specs.Prelude.{Bool, ℕ, ◌+◌, Option, Some, None}
use Rattle.loops.specs.Loop.{pick, Flow, on, out, ranged, searched}

-- one iteration: `if test(i) { return Some(i); }`
abbrev pub first_at : (ℕ → Bool) → ℕ → Unit {0} → Flow (Unit {0}) (Option ℕ)
first_at test i s = pick (test i) (out (Some i)) (on s)

-- what a search that ran out of indices answers
abbrev pub no_index : Unit {0} → Option ℕ
no_index s = None

-- `for i in a..b { if test(i) { return Some(i); } } None`
abbrev pub first_in : (ℕ → Bool) → ℕ → ℕ → Option ℕ
first_in test a b = searched (first_at test) no_index a b (on tt)

-- one iteration: `if test(i) { n += 1; }`
abbrev pub counted : (ℕ → Bool) → ℕ → ℕ → ℕ
counted test i n = pick (test i) (n + 1) n

-- `for i in a..b { if test(i) { n += 1; } }`, from n = 0
abbrev pub count_in : (ℕ → Bool) → ℕ → ℕ → ℕ
count_in test a b = ranged (counted test) a b 0
