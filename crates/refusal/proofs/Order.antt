-- The first refusal of a list of tests: passed exactly when every test is.
use Rattle.std.specs.Prelude.{Ok, Err}
use mathlib.Core.Path.{◌≡◌, refl, sym, ◌∙◌}
use mathlib.Core.Bool.{Bool, true, false}
use mathlib.Core.List.{List, [], ◌∷◌}
use Prim.Native.Nat.{ℕ, ◌≤◌}
use native.Mathlib.Omega.{arith}
use Rattle.refusal.specs.declared.Refusal.{Refusal}
use Rattle.refusal.specs.Refusal.{alone, numbers_of, number_of, index_of}
use Rattle.refusal.specs.Verdict.{Verdict, index_in, asked, and_then, first_refusal, AllPassed}

-- a refusal is no pass
pub unpassed : {r : Refusal} → ◌≡◌ {A = Verdict} (Err r) (Ok tt) → ⊥
unpassed e = cc

-- a test that passes held
pub asked_held : (t : Bool) (r : Refusal) → asked t r ≡ Ok tt → t ≡ true
asked_held true r e = refl
asked_held false r e = absurd (unpassed e)

-- one that refuses did not, and names its own refusal
pub asked_failed : (t : Bool) (r : Refusal) {q : Refusal} → asked t r ≡ Err q → (t ≡ false) × (q ≡ r)
asked_failed true r e = absurd (unpassed (sym e))
asked_failed false r e = (refl, cc)

pub held_asked : (t : Bool) (r : Refusal) → t ≡ true → asked t r ≡ Ok tt
held_asked t r e = rw e

-- where the first refusal is none, every test passed
pub first_passed : (l : List Verdict) → first_refusal l ≡ Ok tt → AllPassed l
first_passed [] e = tt
first_passed (Ok u ∷ rest) e = (refl, first_passed rest e)
first_passed (Err r ∷ rest) e = absurd (unpassed e)

-- the last test's verdict stands
pub last_test_lem : (v : Verdict) → first_refusal (v ∷ []) ≡ v
last_test_lem (Ok u) = refl
last_test_lem (Err r) = refl

-- and back
pub passed_first : (l : List Verdict) → AllPassed l → first_refusal l ≡ Ok tt
passed_first [] h = refl
passed_first (Ok u ∷ rest) h = passed_first rest h.1
passed_first (Err r ∷ rest) h = absurd (unpassed h.0)

-- one test and those behind it, by the code's answer w to it: it passed and the others' answer x stands, or it was refused
pub passed_then : {v w x next : Verdict} {u : Unit {0}} → w ≡ v → w ≡ Ok u → x ≡ next → x ≡ and_then v next
passed_then e f h = rw (← e, f) h

pub refused_then : {v w : Verdict} {r : Refusal} (next : Verdict) → w ≡ v → w ≡ Err r → w ≡ and_then v next
refused_then next e f = rw (← e, f)

-- the last test's answer is that of all
pub last_then : {v w : Verdict} → w ≡ v → w ≡ and_then v (Ok tt)
last_then {v} e = e ∙ sym (last_test_lem v)

-- the test that the code asked is the definition's
pub asked_as : (r : Refusal) {b t : Bool} {w : Verdict} → w ≡ asked b r → b ≡ t → w ≡ asked t r
asked_as r e f = rw (← f) e

-- something holds of every test's verdict, as far as those before pass
abbrev pub Each : (Verdict → Type 0) → List Verdict → Type 0
Each P [] = P (Ok tt)
Each P (v ∷ rest) = P v × (v ≡ Ok tt → Each P rest)

-- so it holds of the first refusal
pub first_each : (P : Verdict → Type 0) (l : List Verdict) → Each P l → P (first_refusal l)
first_each P [] h = h
first_each P (Ok u ∷ rest) h = first_each P rest (h.1 refl)
first_each P (Err r ∷ rest) h = h.0

-- of one test's verdict, where it holds of both
pub asked_each : (P : Verdict → Type 0) (t : Bool) (r : Refusal) → P (Ok tt) → P (Err r) → P (asked t r)
asked_each P true r p q = p
asked_each P false r p q = q

-- a test's refusal is its number alone
abbrev pub Alone : Verdict → Type 0
Alone (Ok u) = Unit {0}
Alone (Err r) = numbers_of r ≡ alone (number_of r)

-- the index that a test's refusal names is at most n
abbrev pub Below : ℕ → Verdict → Type 0
Below n v = index_in v ≤ n

pub asked_below : (t : Bool) (r : Refusal) (n : ℕ) → index_of r ≤ n → Below n (asked t r)
asked_below t r n h = asked_each (Below n) t r (omega arith) h
