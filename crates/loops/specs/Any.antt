-- A search as a function: whether a test holds at some index of a range. Definitions only.
use Rattle.std.specs.Prelude.{Bool, true, false, ℕ}
use Rattle.loops.specs.Loop.{pick, Flow, on, out, searched}

-- one iteration: `if test(i) { return true; }`
abbrev pub stop_at : (ℕ → Bool) → ℕ → Unit {0} → Flow (Unit {0}) Bool
stop_at test i s = pick (test i) (out true) (on s)

-- what a search that ran out of indices answers
abbrev pub not_found : Unit {0} → Bool
not_found s = false

-- `for i in a..b { if test(i) { return true; } } false`
abbrev pub any_in : (ℕ → Bool) → ℕ → ℕ → Bool
any_in test a b = searched (stop_at test) not_found a b (on tt)
