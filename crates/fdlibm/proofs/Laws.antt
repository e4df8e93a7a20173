-- Of an infinity and of a NaN sine and cosine are NaN; what both of their kernels' results have, they have.
use mathlib.Core.Path.{◌≡◌, refl, ap, ◌∙◌, subst}
use Prim.Native.Nat.{ℕ, ◌/◌, ◌%◌, ◌^◌, ◌≤◌}
use native.Mathlib.Decide.{dec_le}
use native.Mathlib.Nat.{lt_of_not-le}
use native.Mathlib.Omega.{arith}
use mathlib.Core.Bool.{Bool, true, false, cond}
use borrow.Author.Tests.{le-leb, lt-leb}
use lib.Bits.{bit_and, and_mask}
use lib.Dec.{T, leb, eqb, lit≤}
use lib.Ieee.{Float, nan, inf, binary64, neg, sub, to_bits, of_fields, fits}
use lib.Ieee.Scale.{finite}
use lib.Ieee.Fits.{nan-fits, inf-fits}
use Rattle.loops.proofs.Choice.{pick_is}
use Rattle.number.specs.Operators.{◌⊖◌}
use Rattle.number.specs.Words.{high_word}
use Rattle.number.proofs.Fields.{at, fields}
use Rattle.remainder.specs.declared.Reduction.{Reduction}
use Rattle.fdlibm.specs.Kernel.{kernel_sin, kernel_cos}
use Rattle.fdlibm.specs.Sine.{sin_of, cos_of, sin_at, cos_at}

-- ---- an infinity or a NaN: a high word of 7ff00000 or more

top_field : (b : ℕ) → 0x7ff00000 ≤ bit_and (b / 2 ^ 32) 0x7fffffff → b % 2 ^ 63 / 2 ^ 52 ≡ 2047
top_field b h = omega (arith, and_mask (b / 2 ^ 32) 31)

top_less_itself : (s : Bool) (t : ℕ) → at s 2047 t ⊖ at s 2047 t ≡ nan
unfolding of_fields sub
top_less_itself s t = go s (eqb t 0)
  where
    go : (s b : Bool) → cond b (inf s) nan ⊖ cond b (inf s) nan ≡ nan
    go true true = refl
    go false true = refl
    go s false = refl

top_not_finite : (s : Bool) (t : ℕ) → T (finite (at s 2047 t)) → ⊥
unfolding of_fields
top_not_finite s t = go (eqb t 0)
  where
    go : (b : Bool) → T (finite (cond b (inf s) nan)) → ⊥
    go true h = h
    go false h = h

less_itself : (x : Float) → T (fits binary64 x) → 0x7ff00000 ≤ high_word x → x ⊖ x ≡ nan
less_itself x f h =
    let b = to_bits binary64 x in
    let s = leb (2 ^ 63) b in
    let e : x ≡ at s 2047 (b % 2 ^ 52) = fields x f ∙ ap (λ (k : ℕ). at s k (b % 2 ^ 52)) (top_field b h) in
    ap (λ (y : Float). y ⊖ y) e ∙ top_less_itself s (b % 2 ^ 52)

-- a finite number has a lower one
pub finite_word : (x : Float) → T (fits binary64 x) → T (finite x) → high_word x ≤ 0x7fefffff
finite_word x f h = go (dec_le (high_word x) 0x7fefffff)
  where
    go : Dec (high_word x ≤ 0x7fefffff) → high_word x ≤ 0x7fefffff
    go (yes l) = l
    go (no l) =
        let b = to_bits binary64 x in
        let s = leb (2 ^ 63) b in
        let e : x ≡ at s 2047 (b % 2 ^ 52) = fields x f ∙ ap (λ (k : ℕ). at s k (b % 2 ^ 52)) (top_field b (lt_of_not-le l)) in
        absurd (top_not_finite s (b % 2 ^ 52) (subst (λ (y : Float). T (finite y)) e h))

module _ (x : Float) (f : T (fits binary64 x)) (h : 0x7ff00000 ≤ high_word x) where
  pub sin_not_finite : sin_of x ≡ nan
  unfolding sin_of
  sin_not_finite = rw (lt-leb (high_word x) 0x3fe921fb (omega arith), le-leb 0x7ff00000 (high_word x) h) (less_itself x f h)

  pub cos_not_finite : cos_of x ≡ nan
  unfolding cos_of
  cos_not_finite = rw (lt-leb (high_word x) 0x3fe921fb (omega arith), le-leb 0x7ff00000 (high_word x) h) (less_itself x f h)

-- infinities and NaN
pub sin_infinite : (s : Bool) → sin_of (inf s) ≡ nan
unfolding to_bits
sin_infinite true = sin_not_finite (inf true) (inf-fits binary64 true) (lit≤ tt)
sin_infinite false = sin_not_finite (inf false) (inf-fits binary64 false) (lit≤ tt)

pub cos_infinite : (s : Bool) → cos_of (inf s) ≡ nan
unfolding to_bits
cos_infinite true = cos_not_finite (inf true) (inf-fits binary64 true) (lit≤ tt)
cos_infinite false = cos_not_finite (inf false) (inf-fits binary64 false) (lit≤ tt)

pub sin_nan : sin_of nan ≡ nan
unfolding to_bits
sin_nan = sin_not_finite nan (nan-fits binary64) (lit≤ tt)

pub cos_nan : cos_of nan ≡ nan
unfolding to_bits
cos_nan = cos_not_finite nan (nan-fits binary64) (lit≤ tt)

-- what the kernels' results have, of either sign, the two switches have
module _ (P : Float → Type 0) (other : (x : Float) → P x → P (neg x)) (a : Reduction) (s : P (kernel_sin a.y0 a.y1 true)) (c : P (kernel_cos a.y0 a.y1)) where
  pub sin_at_is : P (sin_at a)
  unfolding sin_at
  sin_at_is = pick_is P (eqb a.quadrant 0) s (pick_is P (eqb a.quadrant 1) c (pick_is P (eqb a.quadrant 2) (other _ s) (other _ c)))

  pub cos_at_is : P (cos_at a)
  unfolding cos_at
  cos_at_is = pick_is P (eqb a.quadrant 0) c (pick_is P (eqb a.quadrant 1) (other _ s) (pick_is P (eqb a.quadrant 2) (other _ c) s))
