-- The sign bit, the patterns of the NaNs, and equality in bits.
use mathlib.Core.Path.{◌≡◌, refl, sym, ap, ◌∙◌, subst}
use Prim.Native.Nat.{ℕ, zero, suc, ◌+◌, ◌-◌, ◌*◌, ◌/◌, ◌%◌, ◌^◌, ◌<◌}
use native.Mathlib.Nat.{add_assoc, zero-add}
use native.Mathlib.Omega.{arith}
use mathlib.Core.Bool.{Bool, true, false, not, cond, false≢true}
use lib.IntN.{ℤ}
use lib.Dec.{T, eqb, eqb→eq}
use lib.Ieee.{Float, nan, inf, fin, binary64, up, down, size, to_bits, of_bits, fits, is_nan, nan_bits}
use lib.Ieee.Bits.{of_bits-to_bits, to_bits-lt, nan_bits_is, is_true}
use lib.Ieee.Fits.{eq→eqb}
use Rattle.number.specs.Helpers.{abs_of, same_bits}

-- ---- the two ways that the test for a NaN can go

pub is_nan_lem : (x : Float) → is_nan x ≡ true → x ≡ nan
unfolding is_nan
is_nan_lem nan h = refl
is_nan_lem (inf s) h = absurd (false≢true h)
is_nan_lem (fin s m e) h = absurd (false≢true h)

pub no_nan : (x : Float) → is_nan x ≡ false → T (not (is_nan x))
no_nan x h = subst (λ (b : Bool). T (not b)) (sym h) tt

-- ---- the absolute value

fits_sign : (s t : Bool) (m : ℕ) (e : ℤ) → T (fits binary64 (fin s m e)) → T (fits binary64 (fin t m e))
unfolding fits
fits_sign s t zero e h = h
fits_sign s t (suc m) e h = h

pub abs_fits : (x : Float) → T (fits binary64 x) → T (fits binary64 (abs_of x))
unfolding abs_of
abs_fits nan h = h
abs_fits (inf s) h = unfold fits in tt
abs_fits (fin s m e) h = fits_sign s false m e h

-- the pattern of a number is its magnitude's, with the sign bit before it
signed_bits : (s : Bool) (m : ℕ) (e : ℤ) → to_bits binary64 (fin s m e) ≡ cond s (2 ^ 63) 0 + to_bits binary64 (fin false m e)
unfolding to_bits
signed_bits s m e =
    let n = m * up e * 2 ^ 1074 / down e in
    let k = size n - 53 in
    add_assoc (cond s (2 ^ 63) 0) (k * 2 ^ 52) (n / 2 ^ k) ∙ ap (λ (x : ℕ). cond s (2 ^ 63) 0 + (x + n / 2 ^ k)) (sym (zero-add (k * 2 ^ 52)))

cleared : (s : Bool) (r : ℕ) → r < 2 ^ 63 → (cond s (2 ^ 63) 0 + r) % 2 ^ 63 ≡ r
cleared true r h = omega arith
cleared false r h = omega arith

below : (r : ℕ) → 2 ^ 63 + r < 2 * 2 ^ 63 → r < 2 ^ 63
below r h = omega arith

-- clearing the sign bit of a number's pattern gives the pattern of its absolute value
pub abs_bits : (x : Float) → T (fits binary64 x) → T (not (is_nan x)) → to_bits binary64 x % 2 ^ 63 ≡ to_bits binary64 (abs_of x)
unfolding abs_of
abs_bits nan h n = unfold is_nan in absurd n
abs_bits (inf true) h n = unfold to_bits in refl
abs_bits (inf false) h n = unfold to_bits in refl
abs_bits (fin s m e) h n =
    let r = to_bits binary64 (fin false m e) in
    ap (λ (k : ℕ). k % 2 ^ 63) (signed_bits s m e)
    ∙ cleared s r (below r (subst (λ (k : ℕ). k < 2 * 2 ^ 63) (signed_bits true m e) (to_bits-lt binary64 (fin true m e) (fits_sign s true m e h))))

pub abs_back : (x : Float) → T (fits binary64 x) → T (not (is_nan x)) → of_bits binary64 (to_bits binary64 x % 2 ^ 63) ≡ abs_of x
abs_back x h n = ap (of_bits binary64) (abs_bits x h n) ∙ of_bits-to_bits binary64 (abs_of x) (abs_fits x h)

pub abs_nan : (x : Float) → is_nan (abs_of x) ≡ is_nan x
unfolding is_nan abs_of
abs_nan nan = refl
abs_nan (inf s) = refl
abs_nan (fin s m e) = refl

pub abs_no_nan : (x : Float) → T (fits binary64 x) → T (not (is_nan x)) → T (not (nan_bits binary64 (to_bits binary64 x % 2 ^ 63)))
abs_no_nan x h n = subst (λ (b : Bool). T (not b)) (sym (nan_bits_is binary64 (to_bits binary64 x % 2 ^ 63) ∙ ap is_nan (abs_back x h n) ∙ abs_nan x)) n

-- ---- equality in bits is equality

pub bits_apart : (x y : Float) → T (fits binary64 x) → T (fits binary64 y) → to_bits binary64 x ≡ to_bits binary64 y → x ≡ y
bits_apart x y f g h = sym (of_bits-to_bits binary64 x f) ∙ ap (of_bits binary64) h ∙ of_bits-to_bits binary64 y g

pub same_bits→eq : (x y : Float) → T (fits binary64 x) → T (fits binary64 y) → same_bits x y ≡ true → x ≡ y
unfolding same_bits
same_bits→eq x y f g h = bits_apart x y f g (eqb→eq (to_bits binary64 x) (to_bits binary64 y) (subst T (sym h) tt))

pub eq→same_bits : (x y : Float) → x ≡ y → same_bits x y ≡ true
unfolding same_bits
eq→same_bits x y e = is_true (eqb (to_bits binary64 x) (to_bits binary64 y)) (eq→eqb (ap (to_bits binary64) e))
