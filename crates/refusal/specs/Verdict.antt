-- What tests in an order say: passed, or the first refusal. Definitions only.
use Rattle.std.specs.Prelude.{◌≡◌, Bool, List, [], ◌∷◌, ℕ, Result, Ok, Err}
use Rattle.loops.specs.Loop.{pick}
use Rattle.refusal.specs.declared.Refusal.{Refusal}
use Rattle.refusal.specs.Refusal.{number_of, index_of}

-- all passed, or a refusal
abbrev pub Verdict : Type 0
Verdict = Result (Unit {0}) Refusal

-- the paper's number for each case (0: passed)
abbrev pub refusal_of : Verdict → ℕ
refusal_of (Ok u) = 0
refusal_of (Err r) = number_of r

-- the index of the point that 13 to 16 add; 0 for all others
abbrev pub index_in : Verdict → ℕ
index_in (Ok u) = 0
index_in (Err r) = index_of r

-- one test: refused where it fails
abbrev pub asked : Bool → Refusal → Verdict
asked t r = pick t (Ok tt) (Err r)

-- one test after another: the first refusal is the answer
abbrev pub and_then : Verdict → Verdict → Verdict
and_then (Err r) next = Err r
and_then (Ok u) next = next

-- "Order of tests": the first refusal in the order of the list
abbrev pub first_refusal : List Verdict → Verdict
first_refusal [] = Ok tt
first_refusal (v ∷ rest) = and_then v (first_refusal rest)

-- none of the tests refuses
abbrev pub AllPassed : List Verdict → Type 0
AllPassed [] = Unit {0}
AllPassed (v ∷ rest) = (v ≡ Ok tt) × AllPassed rest
