-- A closing and its code say the same.
use mathlib.Core.Path.{◌≡◌, refl}
use Prim.Native.Nat.{ℕ, zero, suc, ◌≤◌}
use native.Mathlib.Omega.{arith}
use Rattle.groups.specs.declared.traced.Closing.{Closing}
use Rattle.groups.specs.declared.traced.Closing.TheVariants.{Open, Forward, Backward}
use Rattle.groups.specs.Traced.{code_of, closing_at}

pub code_back : (k : ℕ) → k ≤ 2 → code_of (closing_at k) ≡ k
code_back zero h = refl
code_back (suc zero) h = refl
code_back (suc (suc zero)) h = refl
code_back (suc (suc (suc k))) h = absurd (omega arith)

pub closing_back : (c : Closing) → closing_at (code_of c) ≡ c
closing_back Open = refl
closing_back Forward = refl
closing_back Backward = refl

pub code_small : (c : Closing) → code_of c ≤ 2
code_small Open = omega arith
code_small Forward = omega arith
code_small Backward = omega arith
