-- Of a finite angle sine and cosine are finite: no step can overflow. The bounds are crude, powers of two.
use Prim.Native.Nat.{ℕ, ◌-◌, ◌*◌, ◌/◌, ◌%◌, ◌^◌, ◌+◌, ◌≤◌}
use native.Mathlib.Omega.{arith}
use mathlib.Core.Bool.{Bool, true, false, not}
use lib.Dec.{T, leb, ltb, lit≤, lit<, nltb→le}
use lib.Ieee.{Float, binary64, of_bits, fits}
use lib.Ieee.Scale.{finite}
use native.Mathlib.Decide.{dec_le}
use native.Mathlib.Nat.{lt_of_le_of_lt, lt_of_not-le}
use borrow.Author.Tests.{le-leb, lt-leb}
use Rattle.loops.specs.Loop.{pick}
use Rattle.loops.proofs.Choice.{pick_is}
use Rattle.number.specs.Operators.{◌⊖◌, ◌⊗◌, bits}
use Rattle.number.specs.Helpers.{one, half}
use Rattle.number.specs.Words.{high_word}
use Rattle.number.proofs.Bounded.{Under, lift, under_finite, plus, minus, times, neg_under, constant, bits_under, word_under}
use Rattle.remainder.specs.declared.Reduction.{Reduction}
use Rattle.reduction.specs.Reduction.{rem_pio2}
use Rattle.reduction.proofs.Laws.{Left, zero_under, rem_under}
use Rattle.fdlibm.specs.Kernel.{S1, sin_series, cos_series, kernel_sin, kernel_cos, qx_of}
use Rattle.fdlibm.specs.Sine.{sin_at, cos_at, sin_of, cos_of}
use Rattle.fdlibm.proofs.Laws.{finite_word, sin_at_is, cos_at_is}

-- ---- the kernels
module _ (z : Float) (u : Under 134 z) where
  sin_series_lem : Under 540 (sin_series z)
  unfolding of_bits
  sin_series_lem =
      plus 539 tt tt tt (constant 0x3f8111111110f8a6 0 tt tt)
      (times tt u
      (plus 404 tt tt tt (constant 0xbf2a01a019c161d5 0 tt tt)
      (times tt u
      (plus 269 tt tt tt (constant 0x3ec71de357b1fe7d 0 tt tt)
      (times tt u (plus 134 tt tt tt (constant 0xbe5ae5e68a2b9ceb 0 tt tt) (times tt u (constant 0x3de5d93a5acfd57c 0 tt tt))))))))

  cos_series_lem : Under 809 (cos_series z)
  unfolding of_bits
  cos_series_lem =
      times tt u
      (plus 674 tt tt tt (constant 0x3fa555555555554c 0 tt tt)
      (times tt u
      (plus 539 tt tt tt (constant 0xbf56c16c16c15177 0 tt tt)
      (times tt u
      (plus 404 tt tt tt (constant 0x3efa01a019cb1590 0 tt tt)
      (times tt u
      (plus 269 tt tt tt (constant 0xbe927e4f809c52ad 0 tt tt)
      (times tt u (plus 134 tt tt tt (constant 0x3e21ee9ebdb4b1c4 0 tt tt) (times tt u (constant 0xbda8fae9be8838d4 0 tt tt)))))))))))

quarter_under : (ix : ℕ) → Under 1 (qx_of ix)
unfolding qx_of of_bits
quarter_under ix = go (ltb 0x3fe90000 ix) (nltb→le 0x3fe90000 ix)
  where
    low : (ix : ℕ) → ix ≤ 0x3fe90000 → (ix - 0x00200000) * 2 ^ 32 % 2 ^ 63 / 2 ^ 52 ≤ 1023 + 0
    low ix h = omega arith

    go : (b : Bool) → (T (not b) → ix ≤ 0x3fe90000) → Under 1 (pick b (bits 0x3fd2000000000000) (bits ((ix - 0x00200000) * 2 ^ 32)))
    go true h = constant 0x3fd2000000000000 1 tt tt
    go false h = bits_under ((ix - 0x00200000) * 2 ^ 32) 0 (low ix (h tt)) (lit≤ tt)

one_under : Under 0 one
unfolding of_bits
one_under = constant 0x3ff0000000000000 0 tt tt

half_under : Under 0 half
unfolding of_bits
half_under = constant 0x3fe0000000000000 0 tt tt

s1_under : Under 0 S1
unfolding of_bits
s1_under = constant 0xbfc5555555555549 0 tt tt

-- of an angle and a tail of at most 2 ^ 67, which is what the reduction of a large angle leaves (`finish_under` of crate remainder)
module _ (x y : Float) (u : Under 67 x) (v : Under 67 y) where
  z_under : Under 134 (x ⊗ x)
  z_under = times tt u u

  v_under : Under 201 (x ⊗ x ⊗ x)
  v_under = times tt z_under u

  r_under : Under 540 (sin_series (x ⊗ x))
  r_under = sin_series_lem (x ⊗ x) z_under

  kernel_sin_under : (t : Bool) → Under 950 (kernel_sin x y t)
  unfolding kernel_sin
  kernel_sin_under t =
      pick_is (Under 950) (ltb (high_word x) 0x3e400000) (lift 950 tt u)
      (pick_is (Under 950) t
      (lift 950 tt
      (minus 878 tt tt tt u
      (minus 877 tt tt tt
      (minus 876 tt tt tt (times tt z_under (minus 741 tt tt tt (times tt half_under v) (times tt v_under r_under))) v)
      (times tt v_under s1_under))))
      (lift 950 tt (plus 876 tt tt tt u (times tt v_under (plus 674 tt tt tt s1_under (times tt z_under r_under))))))

  rest_under : Under 944 (x ⊗ x ⊗ cos_series (x ⊗ x) ⊖ x ⊗ y)
  rest_under = minus 943 tt tt tt (times tt z_under (cos_series_lem (x ⊗ x) z_under)) (times tt u v)

  kernel_cos_under : Under 950 (kernel_cos x y)
  unfolding kernel_cos
  kernel_cos_under =
      let q = quarter_under (high_word x) in
      let h = times tt half_under z_under in
      pick_is (Under 950) (ltb (high_word x) 0x3e400000) (lift 950 tt one_under)
      (pick_is (Under 950) (ltb (high_word x) 0x3fd33333) (lift 950 tt (minus 945 tt tt tt one_under (minus 944 tt tt tt h rest_under)))
      (lift 950 tt (minus 945 tt tt tt (minus 1 tt tt tt one_under q) (minus 944 tt tt tt (minus 134 tt tt tt h q) rest_under))))

-- ---- sine and cosine
module _ (a : Reduction) (l : Left a) where
  s_under : Under 950 (kernel_sin a.y0 a.y1 true)
  s_under = kernel_sin_under a.y0 a.y1 l.0 l.1 true

  c_under : Under 950 (kernel_cos a.y0 a.y1)
  c_under = kernel_cos_under a.y0 a.y1 l.0 l.1

  sin_at_under : Under 950 (sin_at a)
  sin_at_under = sin_at_is (Under 950) (λ x. neg_under) a s_under c_under

  cos_at_under : Under 950 (cos_at a)
  cos_at_under = cos_at_is (Under 950) (λ x. neg_under) a s_under c_under

module _ (x : Float) (f : T (fits binary64 x)) (h : T (finite x)) where
  word : high_word x ≤ 0x7fefffff
  word = finite_word x f h

  left : Left (rem_pio2 x)
  left = rem_under x f word

  small : high_word x ≤ 0x3fe921fb → Under 67 x
  small l = lift 67 tt (word_under x 20 f (lt_of_le_of_lt l (lit< tt)) (lit≤ tt))

  -- what a kernel gives for a small angle, and a switch for the reduced one, is what the function gives
  by_word : (s a : Float) → (high_word x ≤ 0x3fe921fb → T (finite s)) → T (finite a) → T (finite (pick (leb (high_word x) 0x3fe921fb) s (pick (leb 0x7ff00000 (high_word x)) (x ⊖ x) a)))
  by_word s a p q = go (dec_le (high_word x) 0x3fe921fb)
    where
      go : Dec (high_word x ≤ 0x3fe921fb) → T (finite (pick (leb (high_word x) 0x3fe921fb) s (pick (leb 0x7ff00000 (high_word x)) (x ⊖ x) a)))
      go (yes l) = rw (le-leb (high_word x) 0x3fe921fb l) (p l)
      go (no l) = rw (lt-leb (high_word x) 0x3fe921fb (lt_of_not-le l), lt-leb 0x7ff00000 (high_word x) (lt_of_le_of_lt word (lit< tt))) q

  pub sin_finite : T (finite (sin_of x))
  unfolding sin_of
  sin_finite =
      by_word (kernel_sin x (bits 0) false) (sin_at (rem_pio2 x)) (λ l. under_finite (kernel_sin_under x (bits 0) (small l) zero_under false))
      (under_finite (sin_at_under (rem_pio2 x) left))

  pub cos_finite : T (finite (cos_of x))
  unfolding cos_of
  cos_finite =
      by_word (kernel_cos x (bits 0)) (cos_at (rem_pio2 x)) (λ l. under_finite (kernel_cos_under x (bits 0) (small l) zero_under))
      (under_finite (cos_at_under (rem_pio2 x) left))
