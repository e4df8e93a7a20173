-- No angle of a large exponent is near a multiple of pi/2: by the law of Approximation and one computed test of each exponent.
use mathlib.Core.Path.{◌≡◌, refl}
use mathlib.Core.Bool.{Bool, false, not}
use mathlib.Core.List.{◌∷◌}
use Prim.Native.Nat.{ℕ, zero, suc, ◌+◌, ◌-◌, ◌*◌, ◌/◌, ◌%◌, ◌^◌, ◌≤◌, ◌<◌}
use native.Mathlib.Omega.{arith}
use borrow.Author.Tests.{not-false}
use lib.ListN.{get_or}
use lib.Pow.{pow_pos}
use Rattle.loops.specs.Loop.{exits}
use Rattle.loops.specs.Any.{any_in}
use Rattle.loops.proofs.Any.{any_fails}
use Rattle.remainder.specs.Tables.{two_over_pi}
use Rattle.remainder.proofs.Approximation.{walk, kept, Clear, kept_away}

-- n digits from j - 2 on as one number, where a digit before the first is 0
unfoldable pub digits : ℕ → ℕ → ℕ
digits zero j = 0
digits (suc n) j = get_or (0 ∷ 0 ∷ two_over_pi) j 0 * 2 ^ (24 * n) + digits n (j + 1)

-- the ten digits from j - 2 on
abbrev pub digits_from : ℕ → ℕ
digits_from j = digits 10 j

-- of an angle of exponent field e: the first digit that counts, q0 + 1023, and the exponent of the modulus
abbrev pub jv : ℕ → ℕ
jv e = (e - 1049) / 24

abbrev pub raised_q0 : ℕ → ℕ
raised_q0 e = e - 47 - 24 * jv e

abbrev pub modulus_bits : ℕ → ℕ
modulus_bits e = 1220 - raised_q0 e

-- the test of one exponent
abbrev stays_away : ℕ → ℕ → Bool
stays_away k a = kept (2 ^ 53) (2 ^ (k - 62)) (2 ^ k) (a % 2 ^ k)

-- and whether it fails, for the exponent field e
abbrev fails : ℕ → Bool
fails e = not (stays_away (modulus_bits e) (digits_from (jv e)))

-- it fails for none
none_fails : any_in fails 1043 2047 ≡ false
unfolding walk digits exits
none_fails = refl

-- m times the digits stays at least 2^-62 of the modulus away from every multiple of the modulus
pub far : (e : ℕ) → 1043 ≤ e → e ≤ 2046 → (m : ℕ) → 0 < m → m < 2 ^ 53 → Clear (2 ^ modulus_bits e) (2 ^ (modulus_bits e - 62)) (m * digits_from (jv e))
far e h l =
    kept_away (2 ^ 53) (2 ^ (modulus_bits e - 62)) (2 ^ modulus_bits e) (digits_from (jv e)) (pow_pos (modulus_bits e))
    (not-false (stays_away (modulus_bits e) (digits_from (jv e))) (any_fails fails 1043 2047 none_fails e h (omega arith)))
