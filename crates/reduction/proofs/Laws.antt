-- Of a finite angle the reduction leaves an angle and a tail of at most 2 ^ 67 (a crude bound, so that no step can overflow).
use Prim.Native.Nat.{ℕ, ◌+◌, ◌/◌, ◌^◌, ◌≤◌}
use native.Mathlib.Decide.{dec_le}
use native.Mathlib.Nat.{le_trans, lt_of_not-le, lt_of_le_of_lt}
use native.Mathlib.Omega.{arith}
use mathlib.Core.Path.{subst}
use mathlib.Core.Bool.{not, ◌&&◌}
use borrow.Author.Tests.{le-ltb, le-leb, lt-leb}
use lib.Dec.{T, leb, ltb, eqb, lit≤, lit<}
use lib.Bits.{bit_and}
use lib.Ieee.{Float, binary64, neg, of_bits, fits}
use lib.ListN.{get_or}
use Rattle.loops.proofs.Choice.{pick_is}
use Rattle.number.specs.Operators.{◌⊕◌, ◌⊖◌, ◌⊗◌, bits}
use Rattle.number.specs.Helpers.{one, half, abs_of}
use Rattle.number.specs.Words.{high_word, sign_bit, exponent_field}
use Rattle.number.proofs.Bounded.{Under, lift, minus, times, neg_under, abs_under, counted, constant, word_under}
use Rattle.remainder.specs.declared.Reduction.{Reduction}
use Rattle.remainder.specs.Machine.{double, int}
use Rattle.remainder.specs.Large.{large_of}
use Rattle.remainder.proofs.Truncation.{cut_most}
use Rattle.remainder.proofs.Bounded.{large_under}
use Rattle.reduction.specs.declared.Difference.{Difference}
use Rattle.reduction.specs.Reduction.{npio2hw, invpio2, pio2_2, pio2_2t, pio2_3, pio2_3t, taken_of, above_of, below_of, first_difference}
use Rattle.reduction.specs.Reduction.{next_difference, careful_of, refined_of, medium_of, negated_of, by_sign, rem_pio2}
use Rattle.reduction.specs.Near.{near_of}
use Rattle.reduction.proofs.Branches.{near_above, near_below}

abbrev Parted : ℕ → Difference → Type 0
Parted k d = Under k d.r × Under k d.w

abbrev pub Left : Reduction → Type 0
Left a = Under 67 a.y0 × Under 67 a.y1

taken_under : (d : Difference) (n : ℕ) → Parted 41 d → Left (taken_of d n)
unfolding taken_of
taken_under d n v =
    let y = minus 41 tt tt tt v.0 v.1 in
    (lift 67 tt y, lift 67 tt (minus 43 tt tt tt (minus 42 tt tt tt v.0 y) v.1))

module _ (n : Float) (u : Under 31 n) where
  first_under : (t : Float) → Under 21 t → Parted 33 (first_difference t n)
  unfolding first_difference of_bits
  first_under t v =
      (minus 32 tt tt tt v (times tt u (constant 0x3ff921fb54400000 1 tt tt)), lift 33 tt (times tt u (constant 0x3dd0b4611a626331 0 tt tt)))

  second_under : (d : Difference) → Parted 33 d → Parted 37 (next_difference d n pio2_2 pio2_2t)
  unfolding next_difference of_bits
  second_under d v =
      let w = times tt u (constant 0x3dd0b4611a600000 0 tt tt) in
      let r = minus 33 tt tt tt v.0 w in
      (lift 37 tt r, minus 36 tt tt tt (times tt u (constant 0x3ba3198a2e037073 0 tt tt)) (minus 35 tt tt tt (minus 34 tt tt tt v.0 r) w))

  third_under : (d : Difference) → Parted 37 d → Parted 41 (next_difference d n pio2_3 pio2_3t)
  unfolding next_difference of_bits
  third_under d v =
      let w = times tt u (constant 0x3ba3198a2e000000 0 tt tt) in
      let r = minus 37 tt tt tt v.0 w in
      (lift 41 tt r, minus 40 tt tt tt (times tt u (constant 0x397b839a252049c1 0 tt tt)) (minus 39 tt tt tt (minus 38 tt tt tt v.0 r) w))

  careful_under : (d : Difference) (ix : ℕ) → Parted 33 d → Parted 41 (careful_of d n ix)
  unfolding careful_of
  careful_under d ix v =
      let d2 = next_difference d n pio2_2 pio2_2t in
      let v2 = second_under d v in
      pick_is (Parted 41) (leb (ix / 2 ^ 20) (exponent_field (d.r ⊖ d.w) + 16)) (lift 41 tt v.0, lift 41 tt v.1)
      (pick_is (Parted 41) (leb (ix / 2 ^ 20) (exponent_field (d2.r ⊖ d2.w) + 49)) (lift 41 tt v2.0, lift 41 tt v2.1) (third_under d2 v2))

  refined_under : (d : Difference) (whole ix : ℕ) → Parted 33 d → Parted 41 (refined_of d whole n ix)
  unfolding refined_of
  refined_under d whole ix v =
      let c = careful_under d ix v in
      pick_is (Parted 41) (ltb whole 32 && not (eqb ix (get_or npio2hw whole 0))) (lift 41 tt v.0, lift 41 tt v.1) c

  near_under : (x : Float) (q ix : ℕ) → Under 21 x → Left (near_of x n q ix)
  unfolding near_of of_bits
  near_under x q ix v =
      let d = first_difference x n in
      let f = first_under x v in
      let second : Difference = record { r = d.r ⊖ n ⊗ pio2_2; w = n ⊗ pio2_2t } in
      let r = minus 33 tt tt tt f.0 (times tt u (constant 0x3dd0b4611a600000 0 tt tt)) in
      let w = times tt u (constant 0x3ba3198a2e037073 0 tt tt) in
      pick_is Left (eqb ix 0x3ff921fb) (taken_under second q (lift 41 tt r, lift 41 tt w)) (taken_under d q (lift 41 tt f.0, lift 41 tt f.1))

medium_under : (t : Float) (ix : ℕ) → Under 21 t → Left (medium_of t ix)
unfolding medium_of
medium_under t ix v =
    let whole = int (t ⊗ invpio2 ⊕ half) in
    let n = double whole in
    let u : Under 31 n = counted whole 31 (lit≤ tt) (le_trans (cut_most 31 (t ⊗ invpio2 ⊕ half)) (lit≤ tt)) in
    taken_under (refined_of (first_difference t n) whole n ix) (bit_and whole 3) (refined_under n u (first_difference t n) whole ix (first_under n u t v))

back_under : (a : Reduction) → Left a → Left (negated_of a)
unfolding negated_of
back_under a v = (neg_under v.0, neg_under v.1)

pub zero_under : Under 67 (bits 0)
unfolding of_bits
zero_under = constant 0 67 tt tt

one_under : Under 31 one
unfolding of_bits
one_under = constant 0x3ff0000000000000 31 tt tt

above_under : (x : Float) (ix : ℕ) → Under 21 x → Left (above_of x ix)
above_under x ix u = subst Left (near_above x ix) (near_under one one_under x 1 ix u)

below_under : (x : Float) (ix : ℕ) → Under 21 x → Left (below_of x ix)
below_under x ix u = subst Left (near_below x ix) (near_under (neg one) (neg_under one_under) x 3 ix u)

by_sign_under : (sign : ℕ) (a : Reduction) → Left a → Left (by_sign sign a)
by_sign_under sign a l = pick_is Left (eqb sign 0) l (back_under a l)

pub rem_under : (x : Float) → T (fits binary64 x) → high_word x ≤ 0x7fefffff → Left (rem_pio2 x)
unfolding rem_pio2
rem_under x f h = go (dec_le (high_word x) 0x413921fb)
  where
    small : high_word x ≤ 0x413921fb → Under 21 x
    small l = word_under x 20 f (lt_of_le_of_lt l (lit< tt)) (lit≤ tt)

    go : Dec (high_word x ≤ 0x413921fb) → Left (rem_pio2 x)
    go (yes l) =
        let ix = high_word x in
        let u = small l in
        rw (le-leb ix 0x413921fb l)
        (pick_is Left (leb ix 0x3fe921fb) (lift 67 tt u, zero_under)
        (pick_is Left (ltb ix 0x4002d97c) (pick_is Left (eqb (sign_bit x) 0) (above_under x ix u) (below_under x ix u))
        (by_sign_under (sign_bit x) (medium_of (abs_of x) ix) (medium_under (abs_of x) ix (abs_under u)))))
    go (no l) =
        let ix = high_word x in
        let k = lt_of_not-le l in
        rw (lt-leb ix 0x3fe921fb (omega arith), le-ltb ix 0x4002d97c (omega arith), lt-leb ix 0x413921fb k, lt-leb 0x7ff00000 ix (omega arith))
        (by_sign_under (sign_bit x) (large_of x) (large_under x (omega arith) h))
