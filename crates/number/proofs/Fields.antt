-- A number by the three fields of its bits: the sign, the exponent's field and the fraction's.
use mathlib.Core.Path.{◌≡◌, sym, ap, ap₂, ◌∙◌, subst}
use Prim.Native.Nat.{ℕ, suc, ◌+◌, ◌*◌, ◌/◌, ◌%◌, ◌^◌, ◌<◌}
use native.Mathlib.Nat.{mul-one}
use native.Mathlib.Omega.{arith}
use mathlib.Core.Bool.{Bool, true, false, cond}
use borrow.Author.Tests.{lt-leb}
use lib.Dec.{T, leb, eqb, eqb→eq}
use lib.Ieee.{Float, nan, inf, binary64, odd, of_fields, to_bits, fits}
use lib.Ieee.Bits.{of_bits-to_bits}
use lib.Ieee.Exact.{odd_sign}
use Rattle.number.specs.Operators.{bits}
use Rattle.number.proofs.Values.{Is, bits_is}

abbrev pub at : Bool → ℕ → ℕ → Float
at s e t = of_fields binary64 s e t

pub subnormal : (s : Bool) (t : ℕ) → Is (at s 0 t) s t
unfolding of_fields
subnormal s t = subst (Is (at s 0 t) s) (mul-one t) (odd_sign 53 s t 0 1074)

pub normal : (s : Bool) (k t : ℕ) → suc k < 2047 → Is (at s (suc k) t) s ((2 ^ 52 + t) * 2 ^ k)
unfolding of_fields
normal s k t h = go (eqb (suc k) 2047) (eqb→eq (suc k) 2047)
  where
    off : (k : ℕ) → suc k ≡ 2047 → suc k < 2047 → ⊥
    off k e h = omega arith

    go : (b : Bool) → (T b → suc k ≡ 2047) → Is (cond b (cond (eqb t 0) (inf s) nan) (odd 53 s (2 ^ 52 + t) k 1074)) s ((2 ^ 52 + t) * 2 ^ k)
    go true e = absurd (off k (e tt) h)
    go false e = odd_sign 53 s (2 ^ 52 + t) k 1074

pub fields : (x : Float) → T (fits binary64 x) → let b = to_bits binary64 x in x ≡ at (leb (2 ^ 63) b) (b % 2 ^ 63 / 2 ^ 52) (b % 2 ^ 52)
fields x h = sym (of_bits-to_bits binary64 x h) ∙ bits_is (to_bits binary64 x)

-- ---- by a pattern whose sign bit is 0

pub plain_bits : (b : ℕ) → b / 2 ^ 52 < 2048 → bits b ≡ at false (b / 2 ^ 52) (b % 2 ^ 52)
plain_bits b h =
    let e : b % 2 ^ 63 / 2 ^ 52 ≡ b / 2 ^ 52 = omega arith in
    bits_is b ∙ ap (λ (s : Bool). at s (b % 2 ^ 63 / 2 ^ 52) (b % 2 ^ 52)) (lt-leb (2 ^ 63) b (omega arith)) ∙ ap (λ (n : ℕ). at false n (b % 2 ^ 52)) e

pub normal_bits : (b k t : ℕ) → b ≡ t + suc k * 2 ^ 52 → t < 2 ^ 52 → suc k < 2047 → Is (bits b) false ((2 ^ 52 + t) * 2 ^ k)
normal_bits b k t q h l =
    let e : b / 2 ^ 52 ≡ suc k = omega arith in
    let f : b % 2 ^ 52 ≡ t = omega arith in
    subst (λ (x : Float). Is x false ((2 ^ 52 + t) * 2 ^ k)) (sym (plain_bits b (omega arith) ∙ ap₂ (at false) e f)) (normal false k t l)
