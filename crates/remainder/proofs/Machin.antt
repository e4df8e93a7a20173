-- The table is 2/pi cut to 66 digits of 24 bits, for pi by Machin's formula, pi = 16 atan(1/5) - 4 atan(1/239), worked out in whole numbers of
-- 2 ^ -1700: one computed test. That the formula is pi is not proved here.
use mathlib.Core.Path.{◌≡◌, refl}
use mathlib.Core.List.{List, [], ◌∷◌}
use Prim.Native.Nat.{ℕ, zero, suc, ◌+◌, ◌-◌, ◌*◌, ◌/◌, ◌^◌}
use Rattle.remainder.specs.Tables.{two_over_pi}

-- atan(1/n) by its series, for square = n ^ 2: `plus` and `minus` are the sums of the terms so far of either sign, p is 2 ^ 1700 / n ^ odd
unfoldable pub arc : ℕ → ℕ → ℕ → ℕ → ℕ → ℕ → ℕ
arc zero square p odd plus minus = plus - minus
arc (suc k) square p odd plus minus = arc k square (p / square / square) (odd + 4) (plus + p / odd) (minus + p / square / (odd + 2))

unfoldable pub machin : ℕ
unfolding arc
machin = 16 * arc 190 25 (2 ^ 1700 / 5) 1 0 0 - 4 * arc 60 57121 (2 ^ 1700 / 239) 1 0 0

-- the digits as one number
unfoldable pub packed : List ℕ → ℕ → ℕ
packed [] n = n
packed (d ∷ ds) n = packed ds (n * 2 ^ 24 + d)

pub table_is : packed two_over_pi 0 ≡ 2 * 2 ^ 1700 * 2 ^ (24 * 66) / machin
unfolding packed machin
table_is = refl
