-- The reduction of a large angle by the digits of 2/pi: k_rem_pio2.c of fdlibm 5.3 with prec 2, in its steps and under its names. Its arrays
-- are lists, longer than what is read of them. Where the C would leave an array of 20 the answer is `exhausted`. Definitions only.
use Rattle.std.specs.Prelude.{Bool, true, false, not, ℕ, zero, suc, ◌+◌, ◌-◌, ◌*◌, ◌/◌, ◌^◌, ℤ, pos, negsuc, ◌+ℤ◌, ◌-ℤ◌, neg_ℤ}
use Rattle.std.specs.Prelude.{List, get_or, set, replicate, ltb, eqb, Float, Option, Some, None}
use Rattle.std.specs.Int.Bits.{bit_and, bit_or}
use Rattle.std.specs.Float.{nan}
use Rattle.std.specs.Float.Ieee.{neg}
use Rattle.loops.specs.Loop.{pick, ranged, Flow, on, out, searched}
use Rattle.number.specs.Operators.{◌⊕◌, ◌⊖◌, ◌⊗◌, ◌≤?◌, ◌==?◌, bits}
use Rattle.number.specs.Helpers.{positive_zero, one, half}
use Rattle.remainder.specs.declared.Reduction.{Reduction}
use Rattle.remainder.specs.declared.digits.Pass.{Pass}
use Rattle.remainder.specs.declared.sums.Held.{Held}
use Rattle.remainder.specs.Machine.{double, int, floor, scalbn}
use Rattle.remainder.specs.Tables.{jk, jp, two_over_pi, pio2}

-- two24 and twon24
abbrev pub two24 : Float
two24 = bits 0x4170000000000000

abbrev pub twon24 : Float
twon24 = bits 0x3e70000000000000

-- 8.0 and 0.125
abbrev pub eight : Float
eight = bits 0x4020000000000000

abbrev pub eighth : Float
eighth = bits 0x3fc0000000000000

-- ---- f[] and q[]

-- (j<0)? zero : (double) ipio2[j], for j = jv - jx + i
unfoldable pub digit_of : ℕ → ℕ → ℕ → Float
digit_of jv jx i = pick (ltb (jv + i) jx) positive_zero (double (get_or two_over_pi (jv + i - jx) 0))

-- f[i] = ..., one iteration
abbrev pub digit_set : ℕ → ℕ → ℕ → List Float → List Float
digit_set jv jx i f = set f i (digit_of jv jx i)

-- "set up f[0] to f[jx+jk] where f[jx+jk] = ipio2[jv+jk]"
abbrev pub first_digits : ℕ → ℕ → List Float → List Float
first_digits jv jx f = ranged (digit_set jv jx) 0 (jx + jk + 1) f

-- fw += x[j]*f[jx+i-j]
abbrev pub product_added : List Float → List Float → ℕ → ℕ → ℕ → Float → Float
product_added x f jx i j fw = fw ⊕ get_or x j nan ⊗ get_or f (jx + i - j) nan

-- for(j=0,fw=0.0;j<=jx;j++) fw += x[j]*f[jx+i-j]
unfoldable pub term_of : List Float → List Float → ℕ → ℕ → Float
term_of x f jx i = ranged (product_added x f jx i) 0 (jx + 1) positive_zero

-- q[i] = fw
abbrev pub term_set : List Float → List Float → ℕ → ℕ → List Float → List Float
term_set x f jx i q = set q i (term_of x f jx i)

-- "compute q[0],q[1],...q[jk]"
abbrev pub first_terms : List Float → List Float → ℕ → List Float → List Float
first_terms x f jx q = ranged (term_set x f jx) 0 (jk + 1) q

-- f, q and jz
pub record Terms : Type 0 where
  pub f : List Float
  pub q : List Float
  pub jz : ℕ

abbrev pub terms : List Float → List Float → ℕ → Terms
terms f q jz = record { f = f; q = q; jz = jz }

-- ---- from recompute: to the check whether recomputation is needed

-- iq and z
pub record Distilled : Type 0 where
  pub digits : List ℕ
  pub z : Float

abbrev pub distilled : List ℕ → Float → Distilled
distilled iq z = record { digits = iq; z = z }

-- fw = (double)((int)(twon24*z)); iq[i] = (int)(z-two24*fw); z = q[j-1]+fw, for j = jz - i
abbrev pub distill_step : List Float → ℕ → ℕ → Distilled → Distilled
distill_step q jz i s =
    let fw = double (int (twon24 ⊗ s.z)) in
    distilled (set s.digits i (int (s.z ⊖ two24 ⊗ fw))) (get_or q (jz - 1 - i) nan ⊕ fw)

-- "distill q[] into iq[] reversingly"
unfoldable pub distill_of : List Float → ℕ → List ℕ → Distilled
distill_of q jz iq = ranged (distill_step q jz) 0 jz (distilled iq (get_or q jz nan))

-- z = scalbn(z,q0), "actual value of z"; z -= 8.0*floor(z*0.125), "trim off integer >= 8"
unfoldable pub trimmed_of : Float → ℤ → Float
trimmed_of z q0 = scalbn z q0 ⊖ eight ⊗ floor (scalbn z q0 ⊗ eighth)

-- i = iq[jz-1]>>(24-q0), for q0 > 0
abbrev pub above_point : List ℕ → ℕ → ℕ → ℕ
above_point iq jz q0 = get_or iq (jz - 1) 0 / 2 ^ (24 - q0)

-- iq[jz-1] -= i<<(24-q0)
abbrev pub below_point : List ℕ → ℕ → ℕ → ℕ
below_point iq jz q0 = get_or iq (jz - 1) 0 - above_point iq jz q0 * 2 ^ (24 - q0)

-- iq, n and ih
pub record Cut : Type 0 where
  pub digits : List ℕ
  pub n : ℕ
  pub ih : ℕ

-- "need iq[jz-1] to determine n": if(q0>0) ..., else if(q0==0) ih = iq[jz-1]>>23, else if(z>=0.5) ih = 2
abbrev pub cut_of : List ℕ → ℕ → Float → ℕ → ℤ → Cut
cut_of iq n z jz (pos zero) = record { digits = iq; n = n; ih = get_or iq (jz - 1) 0 / 2 ^ 23 }
cut_of iq n z jz (pos (suc k)) = record {
  digits = set iq (jz - 1) (below_point iq jz (suc k));
  n = n + above_point iq jz (suc k);
  ih = below_point iq jz (suc k) / 2 ^ (23 - suc k);
}
cut_of iq n z jz (negsuc k) = record { digits = iq; n = n; ih = pick (half ≤? z) 2 0 }

-- iq and carry
pub record Complemented : Type 0 where
  pub digits : List ℕ
  pub carry : Bool

abbrev pub complemented : List ℕ → Bool → Complemented
complemented iq carry = record { digits = iq; carry = carry }

-- if(carry==0) { if(j!=0) { carry = 1; iq[i] = 0x1000000- j; } } else iq[i] = 0xffffff - j
unfoldable pub opposite_of : ℕ → Bool → ℕ
opposite_of j carry = pick carry (0xffffff - j) (pick (eqb j 0) 0 (0x1000000 - j))

unfoldable pub carried_of : ℕ → Bool → Bool
carried_of j carry = pick carry true (not (eqb j 0))

-- j = iq[i] and what follows, one iteration
abbrev pub complement_step : ℕ → Complemented → Complemented
complement_step i s = complemented (set s.digits i (opposite_of (get_or s.digits i 0) s.carry)) (carried_of (get_or s.digits i 0) s.carry)

-- "compute 1-q"
unfoldable pub complement_of : List ℕ → ℕ → Complemented
complement_of iq jz = ranged complement_step 0 jz (complemented iq false)

-- if(q0>0) switch(q0): case 1: iq[jz-1] &= 0x7fffff; case 2: iq[jz-1] &= 0x3fffff
abbrev pub masked_of : List ℕ → ℕ → ℤ → List ℕ
masked_of iq jz (pos (suc zero)) = set iq (jz - 1) (bit_and (get_or iq (jz - 1) 0) 0x7fffff)
masked_of iq jz (pos (suc (suc zero))) = set iq (jz - 1) (bit_and (get_or iq (jz - 1) 0) 0x3fffff)
masked_of iq jz q0 = iq

-- if(ih==2) { z = one - z; if(carry!=0) z -= scalbn(one,q0); }
unfoldable pub flipped_of : Float → ℕ → Bool → ℤ → Float
flipped_of z ih carry q0 = pick (eqb ih 2) (pick carry (one ⊖ z ⊖ scalbn one q0) (one ⊖ z)) z

-- iq, and n, ih, z
pub record Passed : Type 0 where
  pub digits : List ℕ
  pub pass : Pass

abbrev pub passed : List ℕ → Pass → Passed
passed iq p = record { digits = iq; pass = p }

-- if(ih>0) { "q > 0.5": n += 1, and 1 - q in the place of q }
unfoldable pub turned_of : Cut → Float → ℕ → ℤ → Passed
turned_of c z jz q0 =
    let d = complement_of c.digits jz in
    pick (eqb c.ih 0) (passed c.digits (record { n = c.n; ih = c.ih; z = z }))
    (passed (masked_of d.digits jz q0) (record { n = c.n + 1; ih = c.ih; z = flipped_of z c.ih d.carry q0 }))

-- from recompute: on; n = (int) z; z -= (double)n
unfoldable pub pass_of : List ℕ → List Float → ℕ → ℤ → Passed
pass_of iq q jz q0 =
    let d = distill_of q jz iq in
    let t = trimmed_of d.z q0 in
    let z = t ⊖ double (int t) in
    turned_of (cut_of d.digits (int t) z jz q0) z jz q0

-- ---- "check if recomputation is needed"

-- j |= iq[i], for i from jz - 1 down
abbrev pub digit_joined : List ℕ → ℕ → ℕ → ℕ → ℕ
digit_joined iq jz t j = bit_or j (get_or iq (jz - 1 - t) 0)

-- j = 0; for (i=jz-1;i>=jk;i--) j |= iq[i]
unfoldable pub joined_of : List ℕ → ℕ → ℕ
joined_of iq jz = ranged (digit_joined iq jz) 0 (jz - jk) 0

-- iq[jk-k]==0
abbrev pub needed_step : List ℕ → ℕ → Unit {0} → Flow (Unit {0}) (Option ℕ)
needed_step iq k s = pick (eqb (get_or iq (jk - k) 0) 0) (on s) (out (Some k))

-- past k = jk the C would read what stands before iq
abbrev pub none_needed : Unit {0} → Option ℕ
none_needed s = None

-- for(k=1;iq[jk-k]==0;k++): "k = no. of terms needed"
unfoldable pub needed_of : List ℕ → Option ℕ
needed_of iq = searched (needed_step iq) none_needed 1 (jk + 1) (on tt)

-- f[jx+i] = (double) ipio2[jv+i]; for(j=0,fw=0.0;j<=jx;j++) fw += x[j]*f[jx+i-j]; q[i] = fw
abbrev pub term_more : List Float → ℕ → ℕ → ℕ → Terms → Terms
term_more x jx jv i s =
    let f = set s.f (jx + i) (double (get_or two_over_pi (jv + i) 0)) in
    terms f (set s.q i (term_of x f jx i)) s.jz

-- "add q[jz+1] to q[jz+k]"
unfoldable pub more_of : List Float → ℕ → ℕ → ℕ → Terms → Terms
more_of x jx jv k s = ranged (term_more x jx jv) (s.jz + 1) (s.jz + k + 1) s

-- ---- from "chop off zero terms" to the end

-- iq, and jz and q0
pub record Chopped : Type 0 where
  pub digits : List ℕ
  pub held : Held

abbrev pub chopped : List ℕ → Held → Chopped
chopped iq h = record { digits = iq; held = h }

-- while(iq[jz]==0) { jz--; q0-=24; }, for jz = i - t
abbrev pub chop_step : List ℕ → ℕ → ℕ → ℤ → Flow ℤ Held
chop_step iq i t q0 = pick (eqb (get_or iq (i - t) 0) 0) (on (q0 -ℤ pos 24)) (out (record { jz = i - t; q0 = q0 }))

-- all digits are 0: the C would read what stands before iq. It never is so: one from jk on is not 0 (`chop_stops`)
abbrev pub chop_end : ℤ → Held
chop_end q0 = record { jz = 0; q0 = q0 }

-- "chop off zero terms": jz -= 1; q0 -= 24, and while ...
unfoldable pub chop_of : List ℕ → ℕ → ℤ → Held
chop_of iq jz q0 = searched (chop_step iq (jz - 1)) chop_end 0 jz (on (q0 -ℤ pos 24))

-- "break z into 24-bit if necessary", for z = scalbn(z,-q0)
unfoldable pub break_of : List ℕ → Float → ℕ → ℤ → Chopped
break_of iq z jz q0 =
    let fw = double (int (twon24 ⊗ z)) in
    pick (two24 ≤? z)
    (chopped (set (set iq jz (int (z ⊖ two24 ⊗ fw))) (jz + 1) (int fw)) (record { jz = jz + 1; q0 = q0 +ℤ pos 24 }))
    (chopped (set iq jz (int z)) (record { jz = jz; q0 = q0 }))

-- q and fw
pub record Valued : Type 0 where
  pub values : List Float
  pub fw : Float

abbrev pub valued : List Float → Float → Valued
valued q fw = record { values = q; fw = fw }

-- q[i] = fw*(double)iq[i]; fw*=twon24, for i = jz - t
abbrev pub value_step : List ℕ → ℕ → ℕ → Valued → Valued
value_step iq jz t s = valued (set s.values (jz - t) (s.fw ⊗ double (get_or iq (jz - t) 0))) (s.fw ⊗ twon24)

-- "convert integer "bit" chunk to floating-point value": fw = scalbn(one,q0), and from jz down
unfoldable pub values_of : List ℕ → Held → List Float → List Float
values_of iq h q = (ranged (value_step iq h.jz) 0 (h.jz + 1) (valued q (scalbn one h.q0))).values

-- fw += PIo2[k]*q[i+k]
abbrev pub part_added : List Float → ℕ → ℕ → Float → Float
part_added q i k fw = fw ⊕ get_or pio2 k nan ⊗ get_or q (i + k) nan

-- for(fw=0.0,k=0;k<=jp&&k<=jz-i;k++) fw += PIo2[k]*q[i+k], for i = jz - t
unfoldable pub part_of : List Float → ℕ → ℕ → Float
part_of q jz t = ranged (part_added q (jz - t)) 0 (pick (ltb t jp) t jp + 1) positive_zero

-- fq[jz-i] = fw
abbrev pub part_set : List Float → ℕ → ℕ → List Float → List Float
part_set q jz t fq = set fq t (part_of q jz t)

-- "compute PIo2[0,...,jp]*q[jz,...,0]"
unfoldable pub parts_of : List Float → ℕ → List Float → List Float
parts_of q jz fq = ranged (part_set q jz) 0 (jz + 1) fq

-- fw += fq[i], for i = jz - t
abbrev pub add_down : List Float → ℕ → ℕ → Float → Float
add_down fq jz t fw = fw ⊕ get_or fq (jz - t) nan

-- fw = 0.0; for (i=jz;i>=0;i--) fw += fq[i]
unfoldable pub down_of : List Float → ℕ → Float
down_of fq jz = ranged (add_down fq jz) 0 (jz + 1) positive_zero

-- fw += fq[i]
abbrev pub add_up : List Float → ℕ → Float → Float
add_up fq i fw = fw ⊕ get_or fq i nan

-- fw = fq[0]-fw; for (i=1;i<=jz;i++) fw += fq[i]
unfoldable pub up_of : List Float → ℕ → Float → Float
up_of fq jz fw = ranged (add_up fq) 1 (jz + 1) (get_or fq 0 nan ⊖ fw)

-- (ih==0)? fw: -fw
abbrev pub by_half : ℕ → Float → Float
by_half ih fw = pick (eqb ih 0) fw (neg fw)

-- "compress fq[] into y[]", case 2; n modulo 4 of "return n&7"
unfoldable pub compressed_of : List Float → ℕ → ℕ → ℕ → Reduction
compressed_of fq jz n ih =
    let y0 = down_of fq jz in
    record { quadrant = bit_and n 3; y0 = by_half ih y0; y1 = by_half ih (up_of fq jz y0) }

-- if(z==0.0) "chop off zero terms", else "break z into 24-bit if necessary"
unfoldable pub chopped_of : List ℕ → Float → ℕ → ℤ → Chopped
chopped_of iq z jz q0 = pick (z ==? positive_zero) (chopped iq (chop_of iq jz q0)) (break_of iq (scalbn z (neg_ℤ q0)) jz q0)

-- 20, and the place that z may take beyond jz
abbrev pub room : ℕ
room = 21

unfoldable pub finish_of : List ℕ → Pass → List Float → ℕ → ℤ → Reduction
finish_of iq p q jz q0 =
    let c = chopped_of iq p.z jz q0 in
    compressed_of (parts_of (values_of c.digits c.held q) c.held.jz (replicate room positive_zero)) c.held.jz p.n p.ih

-- ---- the whole

-- where the C would leave its arrays: NaNs. No angle gets there (`never_exhausted`)
abbrev pub exhausted : Reduction
exhausted = record { quadrant = 0; y0 = nan; y1 = nan }

-- jz += k; goto recompute, as far as f[jx+jz] is one of f's 20
abbrev pub again : List Float → ℕ → ℕ → Terms → Option ℕ → Flow Terms Reduction
again x jx jv s None = out exhausted
again x jx jv s (Some k) =
    let t = more_of x jx jv k s in
    pick (ltb 19 (jx + s.jz + k)) (out exhausted) (on (terms t.f t.q (s.jz + k)))

-- if(z==zero) and j==0 recomputation is needed, else the digits are enough
abbrev pub kernel_step : List Float → ℕ → ℕ → ℤ → ℕ → Terms → Flow Terms Reduction
kernel_step x jx jv q0 i s =
    let p = pass_of (replicate room 0) s.q s.jz q0 in
    pick (p.pass.z ==? positive_zero)
    (pick (eqb (joined_of p.digits s.jz) 0) (again x jx jv s (needed_of p.digits)) (out (finish_of p.digits p.pass s.q s.jz q0)))
    (out (finish_of p.digits p.pass s.q s.jz q0))

abbrev pub kernel_end : Terms → Reduction
kernel_end s = exhausted

-- __kernel_rem_pio2(x, y, e0, nx, 2, ipio2), for jx = nx - 1, jv and q0. jz is jk at first and 19 at most, and grows with each pass: 16 are enough
unfoldable pub kernel_of : List Float → ℕ → ℕ → ℤ → Reduction
kernel_of x jx jv q0 =
    let f = first_digits jv jx (replicate 20 positive_zero) in
    searched (kernel_step x jx jv q0) kernel_end 0 16 (on (terms f (first_terms x f jx (replicate room positive_zero)) jk))
