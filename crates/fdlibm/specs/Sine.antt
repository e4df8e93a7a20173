-- Sine and cosine: s_sin.c and s_cos.c of fdlibm 5.3. Definitions only.
use Rattle.std.specs.Prelude.{true, false, leb, eqb, Float}
use Rattle.std.specs.Float.Ieee.{neg}
use Rattle.loops.specs.Loop.{pick}
use Rattle.number.specs.Operators.{◌⊖◌, bits}
use Rattle.remainder.specs.declared.Reduction.{Reduction}
use Rattle.number.specs.Words.{high_word}
use Rattle.fdlibm.specs.Kernel.{kernel_sin, kernel_cos}
use Rattle.reduction.specs.Reduction.{rem_pio2}

-- sin's switch (n & 3)
unfoldable pub sin_at : Reduction → Float
sin_at a =
    let n = a.quadrant in
    let s = kernel_sin a.y0 a.y1 true in
    let c = kernel_cos a.y0 a.y1 in
    pick (eqb n 0) s (pick (eqb n 1) c (pick (eqb n 2) (neg s) (neg c)))

-- cos's switch (n & 3)
unfoldable pub cos_at : Reduction → Float
cos_at a =
    let n = a.quadrant in
    let s = kernel_sin a.y0 a.y1 true in
    let c = kernel_cos a.y0 a.y1 in
    pick (eqb n 0) c (pick (eqb n 1) (neg s) (pick (eqb n 2) (neg c) s))

-- sin(x): of an infinity and of a NaN "sin(Inf or NaN) is NaN", x-x
unfoldable pub sin_of : Float → Float
sin_of x = pick (leb (high_word x) 0x3fe921fb) (kernel_sin x (bits 0) false) (pick (leb 0x7ff00000 (high_word x)) (x ⊖ x) (sin_at (rem_pio2 x)))

-- cos(x): likewise
unfoldable pub cos_of : Float → Float
cos_of x = pick (leb (high_word x) 0x3fe921fb) (kernel_cos x (bits 0)) (pick (leb 0x7ff00000 (high_word x)) (x ⊖ x) (cos_at (rem_pio2 x)))
