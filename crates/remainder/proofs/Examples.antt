-- Reductions by evaluation.
use mathlib.Core.Path.{◌≡◌, refl}
use mathlib.Core.List.{List, [], ◌∷◌}
use Prim.Native.Nat.{ℕ}
use lib.Ieee.{binary64, to_bits}
use Rattle.number.specs.Operators.{bits}
use Rattle.remainder.specs.declared.Reduction.{Reduction}
use Rattle.remainder.specs.Large.{large_of}
use Rattle.remainder.proofs.Computing.{computing}

-- the quadrant, and the bits of y0 and y1
unfoldable pub words : Reduction → List ℕ
unfolding to_bits
words a = a.quadrant ∷ to_bits binary64 a.y0 ∷ to_bits binary64 a.y1 ∷ []

-- 6381956970095103 * 2 ^ 797, the binary64 closest to a multiple of pi/2: terms are added
pub closest : words (large_of (bits 0x7506ac5b262ca1ff)) ≡ 1 ∷ 0x3c214ae72e6ba22f ∷ 0xb8973f0853f8ab5f ∷ []
unfolding computing words
closest = refl

-- 1e22
pub ten_to_22 : words (large_of (bits 0x4480f0cf064dd592)) ≡ 3 ∷ 0x3fe19eab99633cd8 ∷ 0xbc6269e0fc06b508 ∷ []
unfolding computing words
ten_to_22 = refl

-- 1e300
pub ten_to_300 : words (large_of (bits 0x7e37e43c8800759c)) ≡ 3 ∷ 0xbfe39e51e3b9d3d4 ∷ 0x3c6be718f9f1e074 ∷ []
unfolding computing words
ten_to_300 = refl

-- 2 ^ 1023: one piece of the angle
pub largest_power : words (large_of (bits 0x7fe0000000000000)) ≡ 2 ∷ 0xbfe3242cd2724cce ∷ 0x3c402166d1c1445e ∷ []
unfolding computing words
largest_power = refl

-- 3 * 2 ^ 21, where q0 is -25 and z is broken in two
pub no_digit_skipped : words (large_of (bits 0x4158000000000000)) ≡ 1 ∷ 0x3fdccf6b35f78b91 ∷ 0x3c7192e7559dffad ∷ []
unfolding computing words
no_digit_skipped = refl
