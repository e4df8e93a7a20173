-- The sine and the cosine of an angle of at most about pi/4: k_sin.c and k_cos.c of fdlibm 5.3, its constants by the bits that its comments give.
-- Definitions only.
use Rattle.std.specs.Prelude.{ℕ, ◌-◌, ◌*◌, ◌^◌, Bool, ltb, Float}
use Rattle.loops.specs.Loop.{pick}
use Rattle.number.specs.Operators.{◌⊕◌, ◌⊖◌, ◌⊗◌, bits}
use Rattle.number.specs.Words.{high_word}
use Rattle.number.specs.Helpers.{one, half}

-- S1 to S6 of k_sin.c
abbrev pub S1 : Float
S1 = bits 0xbfc5555555555549

abbrev pub S2 : Float
S2 = bits 0x3f8111111110f8a6

abbrev pub S3 : Float
S3 = bits 0xbf2a01a019c161d5

abbrev pub S4 : Float
S4 = bits 0x3ec71de357b1fe7d

abbrev pub S5 : Float
S5 = bits 0xbe5ae5e68a2b9ceb

abbrev pub S6 : Float
S6 = bits 0x3de5d93a5acfd57c

-- C1 to C6 of k_cos.c
abbrev pub C1 : Float
C1 = bits 0x3fa555555555554c

abbrev pub C2 : Float
C2 = bits 0xbf56c16c16c15177

abbrev pub C3 : Float
C3 = bits 0x3efa01a019cb1590

abbrev pub C4 : Float
C4 = bits 0xbe927e4f809c52ad

abbrev pub C5 : Float
C5 = bits 0x3e21ee9ebdb4b1c4

abbrev pub C6 : Float
C6 = bits 0xbda8fae9be8838d4

-- r = S2 + z*(S3 + z*(S4 + z*(S5 + z*S6)))
abbrev pub sin_series : Float → Float
sin_series z = S2 ⊕ z ⊗ (S3 ⊕ z ⊗ (S4 ⊕ z ⊗ (S5 ⊕ z ⊗ S6)))

-- __kernel_sin(x, y, iy): the sine of x + y; tail is iy != 0, and without it y is not read. `(int)x == 0` is true of the small x
unfoldable pub kernel_sin : Float → Float → Bool → Float
kernel_sin x y tail =
    let z = x ⊗ x in
    let v = z ⊗ x in
    let r = sin_series z in
    pick (ltb (high_word x) 0x3e400000) x (pick tail (x ⊖ ((z ⊗ (half ⊗ y ⊖ v ⊗ r) ⊖ y) ⊖ v ⊗ S1)) (x ⊕ v ⊗ (S1 ⊕ z ⊗ r)))

-- r = z*(C1 + z*(C2 + z*(C3 + z*(C4 + z*(C5 + z*C6)))))
abbrev pub cos_series : Float → Float
cos_series z = z ⊗ (C1 ⊕ z ⊗ (C2 ⊕ z ⊗ (C3 ⊕ z ⊗ (C4 ⊕ z ⊗ (C5 ⊕ z ⊗ C6)))))

-- qx: 0.28125, or about x/4: __HI(qx) = ix - 0x00200000, __LO(qx) = 0
unfoldable pub qx_of : ℕ → Float
qx_of ix = pick (ltb 0x3fe90000 ix) (bits 0x3fd2000000000000) (bits ((ix - 0x00200000) * 2 ^ 32))

-- __kernel_cos(x, y): the cosine of x + y
unfoldable pub kernel_cos : Float → Float → Float
kernel_cos x y =
    let ix = high_word x in
    let z = x ⊗ x in
    let r = cos_series z in
    let qx = qx_of ix in
    let hz = half ⊗ z ⊖ qx in
    let a = one ⊖ qx in
    pick (ltb ix 0x3e400000) one (pick (ltb ix 0x3fd33333) (one ⊖ (half ⊗ z ⊖ (z ⊗ r ⊖ x ⊗ y))) (a ⊖ (hz ⊖ (z ⊗ r ⊖ x ⊗ y))))
