-- Powers of two.
use mathlib.Core.Path.{◌≡◌, sym, ap, ◌∙◌}
use Prim.Native.Nat.{ℕ, ◌+◌, ◌*◌, ◌^◌}
use lib.Pow.{pow-add}

-- the product of two of them, by the sum of the exponents
pub pow_sum : (a b c : ℕ) → a + b ≡ c → 2 ^ a * 2 ^ b ≡ 2 ^ c
pow_sum a b c e = sym (pow-add 2 a b) ∙ ap (λ (i : ℕ). 2 ^ i) e
