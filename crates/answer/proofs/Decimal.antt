-- The digits of a number stand for it.
use mathlib.Core.Path.{◌≡◌, refl, ◌∙◌}
use mathlib.Core.List.{List, [], ◌∷◌, ◌++◌}
use Prim.Native.Nat.{ℕ, ◌+◌, ◌*◌, ◌-◌, ◌/◌, ◌%◌, ◌≤◌, ◌<◌}
use native.Mathlib.Omega.{arith}
use Rattle.std.proofs.lemmas.Fmt.{decimal_by_steps}
use Rattle.answer.specs.Line.{decimal_of, value_of}
use Rattle.answer.proofs.Text.{decimal_is}

-- one digit more behind the others
value_behind : (ds : List ℕ) (d a : ℕ) → value_of (ds ++ d ∷ []) a ≡ value_of ds a * 10 + (d - 48)
unfolding value_of
value_behind [] d a = refl
value_behind (e ∷ ds) d a = value_behind ds d (a * 10 + (e - 48))

one_digit : (n : ℕ) → n < 10 → value_of ((48 + n) ∷ []) 0 ≡ n
unfolding value_of
one_digit n h = omega arith

more_digits : (n : ℕ) (ds : List ℕ) → 10 ≤ n → value_of ds 0 ≡ n / 10 → value_of (ds ++ (48 + n % 10) ∷ []) 0 ≡ n
more_digits n ds h e = value_behind ds (48 + n % 10) 0 ∙ rw e (omega arith)

-- every number below 2^64
pub decimal_value : (n : ℕ) → n < 18446744073709551616 → value_of (decimal_of n) 0 ≡ n
decimal_value n h = rw (decimal_is n (omega arith)) (decimal_by_steps (λ k ds. value_of ds 0 ≡ k) one_digit more_digits n (omega arith))
