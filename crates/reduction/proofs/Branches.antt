-- One function over the sign of n gives the C's two branches at |x| < 3pi/4.
use Prim.Native.Nat.{ℕ}
use mathlib.Core.Path.{◌≡◌, refl}
use lib.Ieee.{Float, sub, mul, neg, of_bits}
use Rattle.number.specs.Helpers.{one}
use Rattle.reduction.specs.Near.{near_of}
use Rattle.reduction.specs.Reduction.{above_of, below_of, first_difference, taken_of}

pub near_above : (x : Float) (ix : ℕ) → near_of x one 1 ix ≡ above_of x ix
unfolding near_of above_of first_difference taken_of mul of_bits
near_above x ix = refl

pub near_below : (x : Float) (ix : ℕ) → near_of x (neg one) 3 ix ≡ below_of x ix
unfolding near_of below_of first_difference taken_of sub mul neg of_bits
near_below x ix = refl
