-- The quick test of `parallel`: roots of moderate numbers, from the smallest normal number to 2^20, have a product of at most 2^20.
use mathlib.Core.Path.{◌≡◌, refl, sym, subst}
use mathlib.Core.Bool.{Bool, true, false, not, cond}
use lib.Dec.{T}
use lib.Ieee.{Float, binary64, fits, is_nan, of_bits, mul, to_bits}
use lib.Ieee.Positive.{positive, positive-finite, between, mul_mono}
use Rattle.number.specs.Operators.{bits, ◌⊗◌, ◌<?◌, ◌≤?◌}
use Rattle.number.specs.Helpers.{max_of, min_positive}
use Rattle.number.proofs.Order.{lt→not_le, le_lt_through, le_self, le_numbers}
use Rattle.number.proofs.Scaling.{unsigned}
use Rattle.sqrt.specs.Sqrt.{sqrt_of, round_root}
use Rattle.sqrt.proofs.Laws.{sqrt_mono}

-- 2^20 and its root, the root of the smallest normal number
abbrev top : Float
top = bits 0x4130_0000_0000_0000

abbrev high : Float
high = bits 0x4090_0000_0000_0000

abbrev low : Float
low = bits 0x2000_0000_0000_0000

high_is : sqrt_of top ≡ high
unfolding sqrt_of round_root of_bits to_bits
high_is = refl

low_is : sqrt_of min_positive ≡ low
unfolding sqrt_of round_root of_bits to_bits
low_is = refl

product_high : high ⊗ high ≡ top
unfolding of_bits mul
product_high = refl

product_low : low ⊗ low ≡ min_positive
unfolding of_bits mul
product_low = refl

positive_low : T (positive low)
unfolding of_bits
positive_low = tt

positive_high : T (positive high)
unfolding of_bits
positive_high = tt

positive_least : T (positive min_positive)
unfolding of_bits
positive_least = tt

positive_top : T (positive top)
unfolding of_bits
positive_top = tt

fits_least : T (fits binary64 min_positive)
unfolding of_bits fits
fits_least = tt

fits_top : T (fits binary64 top)
unfolding of_bits fits
fits_top = tt

-- a moderate number: from the smallest normal number to 2^20
pub record Moderate (x : Float) : Type 0 where
  pub fit : T (fits binary64 x)
  pub least : T (min_positive ≤? x)
  pub most : T (x ≤? top)

positive_of : (x : Float) → Moderate x → T (positive x)
positive_of x m = between min_positive x top positive_least positive_top m.least m.most

root_least : (x : Float) → Moderate x → T (low ≤? sqrt_of x)
root_least x m =
    let p = positive_of x m in
    subst (λ (y : Float). T (y ≤? sqrt_of x)) low_is
    (sqrt_mono min_positive x fits_least m.fit (positive-finite min_positive positive_least) (positive-finite x p) (unsigned min_positive positive_least) (unsigned x p) m.least)

root_most : (x : Float) → Moderate x → T (sqrt_of x ≤? high)
root_most x m =
    let p = positive_of x m in
    subst (λ (y : Float). T (sqrt_of x ≤? y)) high_is
    (sqrt_mono x top m.fit fits_top (positive-finite x p) (positive-finite top positive_top) (unsigned x p) (unsigned top positive_top) m.most)

module _ {x y : Float} (mx : Moderate x) (my : Moderate y) where
  positive_root : (z : Float) → Moderate z → T (positive (sqrt_of z))
  positive_root z m = between low (sqrt_of z) high positive_low positive_high (root_least z m) (root_most z m)

  abbrev scale : Float
  scale = sqrt_of x ⊗ sqrt_of y

  scale_least : T (min_positive ≤? scale)
  scale_least =
      subst (λ (z : Float). T (z ≤? scale)) product_low
      (mul_mono binary64 low (sqrt_of x) low (sqrt_of y) positive_low (positive_root x mx) positive_low (positive_root y my) (root_least x mx) (root_least y my))

  scale_most : T (scale ≤? top)
  scale_most =
      subst (λ (z : Float). T (scale ≤? z)) product_high
      (mul_mono binary64 (sqrt_of x) high (sqrt_of y) high (positive_root x mx) positive_high (positive_root y my) positive_high (root_most x mx) (root_most y my))

  positive_scale : T (positive scale)
  positive_scale = between min_positive scale top positive_least positive_top scale_least scale_most

  -- the greater of the two is the scale itself
  greater : max_of scale min_positive ≡ scale
  unfolding max_of
  greater = go (is_nan scale) (is_nan min_positive) (scale <? min_positive) (le_numbers _ scale scale_least).1 (λ t. lt→not_le scale min_positive t scale_least)
    where
      go : (m n l : Bool) → T (not m) → (T l → ⊥) → cond m min_positive (cond n scale (cond l min_positive scale)) ≡ scale
      go true n l h f = absurd h
      go false true l h f = refl
      go false false true h f = absurd (f tt)
      go false false false h f = refl

  -- where even 2^20 in the scale's place leaves the length above, the length is not at most what it is compared with
  pub not_parallel : {angular : Float} → Moderate angular → (length : Float) → T (angular ⊗ top <? length) → (length ≤? angular ⊗ max_of scale min_positive) ≡ false
  not_parallel {angular} ma length l =
      let p = positive_of angular ma in
      let below = mul_mono binary64 angular angular scale top p p positive_scale positive_top (le_self angular (le_numbers _ angular ma.least).1) scale_most in
      let less : T (angular ⊗ scale <? length) = le_lt_through (angular ⊗ scale) (angular ⊗ top) length below l in
      subst (λ (z : Float). (length ≤? angular ⊗ z) ≡ false) (sym greater)
      (no (length ≤? angular ⊗ scale) (lt→not_le (angular ⊗ scale) length less))
    where
      no : (b : Bool) → (T b → ⊥) → b ≡ false
      no true f = absurd (f tt)
      no false f = refl
