-- The last branch of e_rem_pio2.c of fdlibm 5.3: a large angle in pieces of 24 bits. Definitions only.
use Rattle.std.specs.Prelude.{ℕ, ◌+◌, ◌-◌, ◌*◌, ◌/◌, ◌%◌, ◌^◌, ℤ, pos, negsuc, ◌-ℤ◌, List, [], ◌∷◌, get_or, Float}
use Rattle.std.specs.Float.{nan}
use Rattle.loops.specs.Loop.{pick}
use Rattle.number.specs.Operators.{◌⊖◌, ◌⊗◌, ◌==?◌, bits}
use Rattle.number.specs.Helpers.{positive_zero}
use Rattle.number.specs.Words.{magnitude_bits}
use Rattle.remainder.specs.declared.Reduction.{Reduction}
use Rattle.remainder.specs.Machine.{double, int}
use Rattle.remainder.specs.Kernel.{two24, kernel_of}

-- "set z = scalbn(|x|,ilogb(x)-23)", which is from 2 ^ 23 to 2 ^ 24: __LO(z) = __LO(x); __HI(z) = ix - (e0<<20)
unfoldable pub scaled_of : Float → Float
scaled_of x = bits (magnitude_bits x % 2 ^ 52 + 1046 * 2 ^ 52)

-- e0 = (ix>>20)-1046
abbrev pub e0_of : Float → ℤ
e0_of x = pos (magnitude_bits x / 2 ^ 52) -ℤ pos 1046

-- for(i=0;i<2;i++) { tx[i] = (double)((int)(z)); z = (z-tx[i])*two24; } tx[2] = z
unfoldable pub pieces_of : Float → List Float
pieces_of z =
    let t0 = double (int z) in
    let z1 = (z ⊖ t0) ⊗ two24 in
    let t1 = double (int z1) in
    t0 ∷ t1 ∷ (z1 ⊖ t1) ⊗ two24 ∷ []

-- nx = 3; while(tx[nx-1]==zero) nx--, "skip zero term", less 1: jx = nx - 1. tx[0] is not 0
unfoldable pub jx_of : List Float → ℕ
jx_of tx = pick (get_or tx 2 nan ==? positive_zero) (pick (get_or tx 1 nan ==? positive_zero) 0 1) 2

-- jv = (e0-3)/24; if(jv<0) jv=0
abbrev pub jv_of : ℤ → ℕ
jv_of (pos e0) = (e0 - 3) / 24
jv_of (negsuc k) = 0

-- q0 = e0-24*(jv+1)
abbrev pub q0_of : ℤ → ℤ
q0_of e0 = e0 -ℤ pos (24 * (jv_of e0 + 1))

-- n modulo 4 and y of a large |x|
unfoldable pub large_of : Float → Reduction
large_of x =
    let tx = pieces_of (scaled_of x) in
    kernel_of tx (jx_of tx) (jv_of (e0_of x)) (q0_of (e0_of x))
