-- The reduction of an angle by multiples of pi/2: e_rem_pio2.c of fdlibm 5.3; its constants by the bits that its comments give. Its last branch is
-- `large_of` of the crate remainder. Definitions only.
use Rattle.std.specs.Prelude.{ℕ, ◌+◌, ◌-◌, ◌/◌, ◌^◌, not, ◌&&◌, List, [], ◌∷◌, ltb, leb, eqb, get_or, Float}
use Rattle.std.specs.Int.Bits.{bit_and}
use Rattle.std.specs.Float.Ieee.{neg}
use Rattle.loops.specs.Loop.{pick}
use Rattle.number.specs.Operators.{◌⊕◌, ◌⊖◌, ◌⊗◌, bits}
use Rattle.number.specs.Helpers.{half, abs_of}
use Rattle.remainder.specs.declared.Reduction.{Reduction}
use Rattle.remainder.specs.Machine.{double, int}
use Rattle.remainder.specs.Large.{large_of}
use Rattle.reduction.specs.declared.Difference.{Difference}
use Rattle.number.specs.Words.{high_word, sign_bit, exponent_field}

-- invpio2 of e_rem_pio2.c: 53 digits of 2/pi
abbrev pub invpio2 : Float
invpio2 = bits 0x3fe45f306dc9c883

-- 33 digits of pi/2, and pi/2 less those
abbrev pub pio2_1 : Float
pio2_1 = bits 0x3ff921fb54400000

abbrev pub pio2_1t : Float
pio2_1t = bits 0x3dd0b4611a626331

-- the second 33 digits, and what is left
abbrev pub pio2_2 : Float
pio2_2 = bits 0x3dd0b4611a600000

abbrev pub pio2_2t : Float
pio2_2t = bits 0x3ba3198a2e037073

-- the third 33 digits, and what is left
abbrev pub pio2_3 : Float
pio2_3 = bits 0x3ba3198a2e000000

abbrev pub pio2_3t : Float
pio2_3t = bits 0x397b839a252049c1

-- npio2_hw, the high words of n pi/2 for n = 1 to 32, after a 0 for n = 0, so that n is the index
abbrev pub npio2hw : List ℕ
npio2hw =
    0 ∷ 0x3ff921fb ∷ 0x400921fb ∷ 0x4012d97c ∷ 0x401921fb ∷ 0x401f6a7a ∷ 0x4022d97c ∷ 0x4025fdbb ∷ 0x402921fb ∷ 0x402c463a ∷ 0x402f6a7a
    ∷ 0x4031475c ∷ 0x4032d97c ∷ 0x40346b9c ∷ 0x4035fdbb ∷ 0x40378fdb ∷ 0x403921fb ∷ 0x403ab41b ∷ 0x403c463a ∷ 0x403dd85a ∷ 0x403f6a7a
    ∷ 0x40407e4c ∷ 0x4041475c ∷ 0x4042106c ∷ 0x4042d97c ∷ 0x4043a28c ∷ 0x40446b9c ∷ 0x404534ac ∷ 0x4045fdbb ∷ 0x4046c6cb ∷ 0x40478fdb
    ∷ 0x404858eb ∷ 0x404921fb ∷ []

-- y[0] = r - w, y[1] = (r - y[0]) - w, and n
unfoldable pub taken_of : Difference → ℕ → Reduction
taken_of d n = record { quadrant = n; y0 = d.r ⊖ d.w; y1 = d.r ⊖ (d.r ⊖ d.w) ⊖ d.w }

-- |x| < 3pi/4, the special case with n = 1, for a positive x: one step, or two where the high word is that of pi/2
unfoldable pub above_of : Float → ℕ → Reduction
above_of x ix =
    let z = x ⊖ pio2_1 in
    let v = z ⊖ pio2_2 in
    pick (eqb ix 0x3ff921fb) (record { quadrant = 1; y0 = v ⊖ pio2_2t; y1 = v ⊖ (v ⊖ pio2_2t) ⊖ pio2_2t })
    (record { quadrant = 1; y0 = z ⊖ pio2_1t; y1 = z ⊖ (z ⊖ pio2_1t) ⊖ pio2_1t })

-- the same with n = -1, for a negative x
unfoldable pub below_of : Float → ℕ → Reduction
below_of x ix =
    let z = x ⊕ pio2_1 in
    let v = z ⊕ pio2_2 in
    pick (eqb ix 0x3ff921fb) (record { quadrant = 3; y0 = v ⊕ pio2_2t; y1 = v ⊖ (v ⊕ pio2_2t) ⊕ pio2_2t })
    (record { quadrant = 3; y0 = z ⊕ pio2_1t; y1 = z ⊖ (z ⊕ pio2_1t) ⊕ pio2_1t })

-- r = t - fn*pio2_1, w = fn*pio2_1t
unfoldable pub first_difference : Float → Float → Difference
first_difference t fn = record { r = t ⊖ fn ⊗ pio2_1; w = fn ⊗ pio2_1t }

-- t = r, w = fn*part, r = t - w, w = fn*rest - ((t - r) - w)
unfoldable pub next_difference : Difference → Float → Float → Float → Difference
next_difference d fn part rest =
    let t = d.r in
    let w = fn ⊗ part in
    record { r = t ⊖ w; w = fn ⊗ rest ⊖ (t ⊖ (t ⊖ w) ⊖ w) }

-- the second step where i = j - (exponent of r - w) is above 16, and then the third where it is above 49
unfoldable pub careful_of : Difference → Float → ℕ → Difference
careful_of d fn ix =
    let j = ix / 2 ^ 20 in
    let second = next_difference d fn pio2_2 pio2_2t in
    pick (leb j (exponent_field (d.r ⊖ d.w) + 16)) d
    (pick (leb j (exponent_field (second.r ⊖ second.w) + 49)) second (next_difference second fn pio2_3 pio2_3t))

-- if(n<32&&ix!=npio2_hw[n-1]) the first step is enough
unfoldable pub refined_of : Difference → ℕ → Float → ℕ → Difference
refined_of d n fn ix = pick (ltb n 32 && not (eqb ix (get_or npio2hw n 0))) d (careful_of d fn ix)

-- the medium range for a positive t of high word ix: n = (int)(t*invpio2 + half), y0 = r - w, y1 = (r - y0) - w
unfoldable pub medium_of : Float → ℕ → Reduction
medium_of t ix =
    let n = int (t ⊗ invpio2 ⊕ half) in
    let fn = double n in
    taken_of (refined_of (first_difference t fn) n fn ix) (bit_and n 3)

-- hx < 0: y0, y1 and n negated; of n modulo 4 that is (4 - n) modulo 4
unfoldable pub negated_of : Reduction → Reduction
negated_of a = record { quadrant = bit_and (4 - bit_and a.quadrant 3) 3; y0 = neg a.y0; y1 = neg a.y1 }

-- if(hx<0) as above, else as it is; a negative x has the sign bit 1
abbrev pub by_sign : ℕ → Reduction → Reduction
by_sign sign a = pick (eqb sign 0) a (negated_of a)

-- __ieee754_rem_pio2(x, y): n modulo 4 and y
unfoldable pub rem_pio2 : Float → Reduction
rem_pio2 x =
    let ix = high_word x in
    let sign = sign_bit x in
    pick (leb ix 0x3fe921fb) (record { quadrant = 0; y0 = x; y1 = bits 0 })
    (pick (ltb ix 0x4002d97c) (pick (eqb sign 0) (above_of x ix) (below_of x ix))
    (pick (leb ix 0x413921fb) (by_sign sign (medium_of (abs_of x) ix))
    (pick (leb 0x7ff00000 ix) (record { quadrant = 0; y0 = x ⊖ x; y1 = x ⊖ x }) (by_sign sign (large_of x)))))
