-- The bits are no NaN: the exponent field of 2 ^ n is n + 1023, below 2047.
use mathlib.Core.Path.{◌≡◌, sym, subst}
use Prim.Native.Nat.{ℕ, ◌+◌, ◌-◌, ◌*◌, ◌%◌, ◌^◌, ◌<◌, ◌≤◌}
use native.Mathlib.Omega.{arith}
use mathlib.Core.Bool.{Bool, not}
use lib.Dec.{T}
use lib.Arith.{le→nltb}
use lib.IntN.{ℤ, pos, negsuc, nat_abs, ◌+ℤ◌}
use lib.Signed.{◌≤ℤ◌}
use lib.Ieee.{binary64, nan_bits}
use lib.Ieee.Bits.{nan_bits_above}
use mir.Syntax.{w32}
use mir.Val.{to_z, of_z}
use Rattle.std.proofs.lemmas.Int.{ints}
use Rattle.remainder.proofs.machine.power.Goals as goal

-- the exponent's field of 2 ^ n
abbrev field : ℤ → ℕ
field n = nat_abs (to_z w32 (of_z w32 (to_z w32 (of_z w32 n) +ℤ pos 1023)))

field_above : (n : ℕ) → n ≤ 1023 → field (pos n) ≡ 1023 + n
field_above n h = omega (arith, ints)

field_below : (n : ℕ) → n ≤ 1021 → field (negsuc n) ≡ 1022 - n
field_below n h = omega (arith, ints)

no_nan : (b : ℕ) → b < 2047 → T (not (nan_bits binary64 (b * 2 ^ 52 % 2 ^ 64)))
no_nan b h =
    let n = b * 2 ^ 52 % 2 ^ 64 in
    subst (λ (t : Bool). T (not t)) (sym (nan_bits_above binary64 n)) (le→nltb 0x7ff0000000000000 (n % 2 ^ 63) (omega arith))

in_field : (n : ℤ) → negsuc 1021 ≤ℤ n → n ≤ℤ pos 1023 → field n < 2047
in_field (pos n) l h = omega (arith, ints, field_above n (omega (arith, ints)))
in_field (negsuc n) l h = omega (arith, ints, field_below n (omega (arith, ints)))

pub float_from_bits-result : goal.float_from_bits-result
float_from_bits-result c = no_nan _ (in_field c.args.n c.requires.0 c.requires.1)
