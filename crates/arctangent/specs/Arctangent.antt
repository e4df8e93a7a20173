-- The arc tangent, s_atan.c, and the arc tangent of two arguments, e_atan2.c of fdlibm 5.3. Constants stand by the bits that its comments
-- give; `tiny` and the literals by the bits of their decimals. Definitions only.
use Rattle.std.specs.Prelude.{ℕ, ◌+◌, ◌*◌, ◌/◌, ◌^◌, ◌&&◌, [], ◌∷◌, ltb, leb, eqb, get_or, Float}
use Rattle.std.specs.Int.Bits.{bit_and, bit_or}
use Rattle.std.specs.Float.{binary64}
use Rattle.std.specs.Float.Ieee.{to_bits, neg, is_nan}
use Rattle.loops.specs.Loop.{pick}
use Rattle.number.specs.Operators.{◌⊕◌, ◌⊖◌, ◌⊗◌, ◌⊘◌, bits}
use Rattle.number.specs.Helpers.{one, half, two, abs_of}
use Rattle.number.specs.Words.{high_word, sign_bit, magnitude_bits}

-- 1.5 of s_atan.c
abbrev pub three_halves : Float
three_halves = bits 0x3ff8000000000000

-- atanhi[] of s_atan.c: the arc tangents of 0.5, 1, 1.5 and infinity
abbrev pub atanhi : ℕ → Float
atanhi i = bits (get_or (0x3fddac670561bb4f ∷ 0x3fe921fb54442d18 ∷ 0x3fef730bd281f69b ∷ 0x3ff921fb54442d18 ∷ []) i 0)

-- atanlo[]: what is left of them
abbrev pub atanlo : ℕ → Float
atanlo i = bits (get_or (0x3c7a2b7f222f65e2 ∷ 0x3c81a62633145c07 ∷ 0x3c7007887af0cbbd ∷ 0x3c91a62633145c07 ∷ []) i 0)

-- aT[]
abbrev pub a_t : ℕ → Float
a_t i =
    bits (get_or (
    0x3fd555555555550d ∷ 0xbfc999999998ebc4 ∷ 0x3fc24924920083ff ∷ 0xbfbc71c6fe231671 ∷ 0x3fb745cdc54c206e ∷ 0xbfb3b0f2af749a6d
    ∷ 0x3fb10d66a0d03d51 ∷ 0xbfadde2d52defd9a ∷ 0x3fa97b4b24760deb ∷ 0xbfa2b4442c6a6c2f ∷ 0x3f90ad3ae322da11 ∷ []
    ) i 0)

-- tiny, pi_o_4, pi_o_2, pi and pi_lo of e_atan2.c, and its 3.0, -3.0, -1.0
abbrev pub tiny : Float
tiny = bits 0x01a56e1fc2f8f359

abbrev pub pi_o_4 : Float
pi_o_4 = bits 0x3fe921fb54442d18

abbrev pub pi_o_2 : Float
pi_o_2 = bits 0x3ff921fb54442d18

abbrev pub pi : Float
pi = bits 0x400921fb54442d18

abbrev pub pi_lo : Float
pi_lo = bits 0x3ca1a62633145c07

abbrev three : Float
three = bits 0x4008000000000000

abbrev minus_three : Float
minus_three = bits 0xc008000000000000

abbrev minus_one : Float
minus_one = bits 0xbff0000000000000

-- s1 = z*(aT[0]+w*(aT[2]+w*(aT[4]+w*(aT[6]+w*(aT[8]+w*aT[10]))))), for w = z*z
abbrev pub evens : Float → Float → Float
evens z w = z ⊗ (a_t 0 ⊕ w ⊗ (a_t 2 ⊕ w ⊗ (a_t 4 ⊕ w ⊗ (a_t 6 ⊕ w ⊗ (a_t 8 ⊕ w ⊗ a_t 10)))))

-- s2 = w*(aT[1]+w*(aT[3]+w*(aT[5]+w*(aT[7]+w*aT[9]))))
abbrev pub odds : Float → Float
odds w = w ⊗ (a_t 1 ⊕ w ⊗ (a_t 3 ⊕ w ⊗ (a_t 5 ⊕ w ⊗ (a_t 7 ⊕ w ⊗ a_t 9))))

-- s1 + s2, for z = x*x
abbrev pub series_of : Float → Float
series_of x = evens (x ⊗ x) (x ⊗ x ⊗ (x ⊗ x)) ⊕ odds (x ⊗ x ⊗ (x ⊗ x))

-- |x| >= 2^66: x + x for a NaN, else a right angle
unfoldable pub far_of : Float → ℕ → Float
far_of x sign = pick (is_nan x) (x ⊕ x) (pick (eqb sign 0) (atanhi 3 ⊕ atanlo 3) (neg (atanhi 3) ⊖ atanlo 3))

-- atanhi[id] - ((x*(s1+s2) - atanlo[id]) - x)
unfoldable pub from_known : Float → Float → Float → Float
from_known hi lo x = hi ⊖ (x ⊗ series_of x ⊖ lo ⊖ x)

-- the cases id = 0 to 3, for t = |x| of high word ix: below 11/16, 19/16, 39/16, and above
unfoldable pub folded_of : Float → ℕ → Float
folded_of t ix =
    pick (ltb ix 0x3fe60000) (from_known (atanhi 0) (atanlo 0) ((two ⊗ t ⊖ one) ⊘ (two ⊕ t)))
    (pick (ltb ix 0x3ff30000) (from_known (atanhi 1) (atanlo 1) ((t ⊖ one) ⊘ (t ⊕ one)))
    (pick (ltb ix 0x40038000) (from_known (atanhi 2) (atanlo 2) ((t ⊖ three_halves) ⊘ (one ⊕ three_halves ⊗ t)))
    (from_known (atanhi 3) (atanlo 3) (minus_one ⊘ t))))

-- atan(x). `huge + x > one` is true of the small x
unfoldable pub atan_of : Float → Float
atan_of x =
    let ix = high_word x in
    let z = folded_of (abs_of x) ix in
    pick (leb 0x44100000 ix) (far_of x (sign_bit x))
    (pick (ltb ix 0x3fdc0000) (pick (ltb ix 0x3e200000) x (x ⊖ x ⊗ series_of x)) (pick (eqb (sign_bit x) 0) z (neg z)))

-- switch (m)
unfoldable pub by_signs : ℕ → Float → Float → Float → Float → Float
by_signs m a b c d = pick (eqb m 0) a (pick (eqb m 1) b (pick (eqb m 2) c d))

-- when y = 0
abbrev pub on_axis : Float → ℕ → Float
on_axis y m = by_signs m y y (pi ⊕ tiny) (neg pi ⊖ tiny)

-- when x = 0, and when y is INF
unfoldable pub upright : ℕ → Float
upright sign = pick (eqb sign 0) (pi_o_2 ⊕ tiny) (neg pi_o_2 ⊖ tiny)

-- when x is INF: y is INF, or it is not
unfoldable pub far_along : ℕ → ℕ → Float
far_along iy m =
    pick (eqb iy 0x7ff00000)
    (by_signs m (pi_o_4 ⊕ tiny) (neg pi_o_4 ⊖ tiny) (three ⊗ pi_o_4 ⊕ tiny) (minus_three ⊗ pi_o_4 ⊖ tiny))
    (by_signs m (bits 0) (minus_one ⊗ bits 0) (pi ⊕ tiny) (neg pi ⊖ tiny))

-- z, for k = (iy - ix) >> 20: k > 60, hx < 0 with k < -60, and atan(fabs(y/x))
unfoldable pub quotient_of : Float → Float → ℕ → ℕ → ℕ → Float
quotient_of y x sign iy ix =
    pick (leb (ix + 61 * 2 ^ 20) iy) (pi_o_2 ⊕ half ⊗ pi_lo) (pick (eqb sign 1 && ltb (iy + 60 * 2 ^ 20) ix) (bits 0) (atan_of (abs_of (y ⊘ x))))

-- m = ((hy >> 31) & 1) | ((hx >> 30) & 2): 2 * sign(x) + sign(y)
abbrev pub signs_of : Float → Float → ℕ
signs_of y x = bit_or (sign_bit y) (bit_and (to_bits binary64 x / 2 ^ 62) 2)

-- the last switch (m); __HI(z) ^= 0x80000000 is the other sign
abbrev pub around_of : ℕ → Float → Float
around_of m z = by_signs m z (neg z) (pi ⊖ (z ⊖ pi_lo)) (z ⊖ pi_lo ⊖ pi)

-- x and y are numbers: y = 0, x = 0, x is INF, y is INF, or the angle by |y/x|
unfoldable pub angle_of : Float → Float → Float
angle_of y x =
    let m = signs_of y x in
    let ix = high_word x in
    let iy = high_word y in
    pick (eqb (magnitude_bits y) 0) (on_axis y m)
    (pick (eqb (magnitude_bits x) 0) (upright (sign_bit y))
    (pick (eqb ix 0x7ff00000) (far_along iy m)
    (pick (eqb iy 0x7ff00000) (upright (sign_bit y))
    (around_of m (quotient_of y x (sign_bit x) iy ix)))))

-- __ieee754_atan2(y, x): x or y is NaN, x = 1.0, or all else
unfoldable pub atan2_of : Float → Float → Float
atan2_of y x =
    pick (is_nan x) (x ⊕ y) (pick (is_nan y) (x ⊕ y) (pick (eqb (to_bits binary64 x) 0x3ff0000000000000) (atan_of y) (angle_of y x)))
