-- A large angle as the kernel takes it: its three pieces of 24 bits, and its exponents.
use mathlib.Core.Path.{◌≡◌, refl, sym, ap, subst}
use mathlib.Core.Bool.{Bool, true, false, not, cond}
use mathlib.Core.List.{List}
use Prim.Native.Nat.{ℕ, zero, suc, ◌+◌, ◌-◌, ◌*◌, ◌/◌, ◌%◌, ◌^◌, ◌≤◌, ◌<◌}
use native.Mathlib.Nat.{add-zero, mod-lt}
use native.Mathlib.Omega.{arith}
use lib.Bits.{and_mask}
use lib.Dec.{T, ltb, ltb→lt, nltb→le, lit<, lit≤}
use lib.Pow.{pow_pos, pow_mono}
use lib.IntN.{ℤ, pos, negsuc, ◌-ℤ◌}
use lib.Signed.{◌≤ℤ◌}
use lib.ListN.{get_or}
use lib.Ieee.{Float, nan, binary64, to_bits}
use Rattle.std.proofs.lemmas.Int.{ints}
use Rattle.loops.specs.Loop.{pick}
use Rattle.number.specs.Operators.{◌⊖◌, ◌⊗◌, ◌==?◌}
use Rattle.number.specs.Helpers.{positive_zero}
use Rattle.number.specs.Words.{high_word, magnitude_bits}
use Rattle.number.proofs.Fields.{normal_bits}
use Rattle.remainder.specs.Machine.{double, int}
use Rattle.remainder.specs.Kernel.{two24}
use Rattle.remainder.specs.Large.{scaled_of, e0_of, pieces_of, jx_of, jv_of, q0_of}
use Rattle.remainder.proofs.Far.{jv, raised_q0}
use Rattle.remainder.proofs.Distance.{Parts, one_at}
use Rattle.remainder.proofs.Exactly.{Of, times_of, coarser_of, floor_of, fraction_of, told_zero, two24_of}
use Rattle.remainder.proofs.Passing.{weight_of_one}

-- ---- the fields of the angle's bits

-- the exponent's field
abbrev pub exponent_of : Float → ℕ
exponent_of x = magnitude_bits x / 2 ^ 52

-- the significand of 53 bits
abbrev pub significand_of : Float → ℕ
significand_of x = 2 ^ 52 + magnitude_bits x % 2 ^ 52

-- the words from 0x41300000 to 0x7fefffff are of the exponents from 1043 to 2046
pub exponent_range : (x : Float) → 0x41300000 ≤ high_word x → high_word x ≤ 0x7fefffff → (1043 ≤ exponent_of x) × (exponent_of x ≤ 2046)
exponent_range x h l =
    let b = to_bits binary64 x in
    let e : high_word x ≡ b / 2 ^ 32 % 2 ^ 31 = and_mask (b / 2 ^ 32) 31 in
    let f : magnitude_bits x ≡ b % 2 ^ 63 = and_mask b 63 in
    (omega (arith, e, f), omega (arith, e, f))

-- ---- the pieces

-- "set z = scalbn(|x|,ilogb(x)-23)"
scaled_is : (x : Float) → Of (scaled_of x) (significand_of x) 29
unfolding scaled_of
scaled_is x =
    let t = magnitude_bits x % 2 ^ 52 in
    (lit≤ tt, normal_bits (t + 1046 * 2 ^ 52) 1045 t refl (omega arith) (lit< tt))

-- tx holds the pieces of the significand m
pub record Pieces (m : ℕ) (tx : List Float) : Type 0 where
  pub X0 : ℕ
  pub X1 : ℕ
  pub X2 : ℕ
  pub parts : Parts m X0 X1 X2
  pub is0 : Of (get_or tx 0 nan) X0 0
  pub is1 : Of (get_or tx 1 nan) X1 0
  pub is2 : Of (get_or tx 2 nan) X2 0

-- the whole part of z, and what is left, times two24
piece_is : (z : Float) (m k : ℕ) → Of z m k → k ≤ 29 → m < 2 ^ 53 → m / 2 ^ k < 2 ^ 24
    → Of (double (int z)) (m / 2 ^ k) 0 × Of ((z ⊖ double (int z)) ⊗ two24) (m % 2 ^ k * 2 ^ 24) k
piece_is z m k p K h l =
    let r = m % 2 ^ k in
    let d = z ⊖ double (int z) in
    let f : r * 2 ^ 24 ≤ 2 ^ 53 = few r (2 ^ k) (mod-lt m (pow_pos k)) (pow_mono {i = k} {j = 29} K) in (
      floor_of z m k p (omega arith),
      subst (Of (d ⊗ two24) (r * 2 ^ 24)) (add-zero k)
          (times_of d two24 r (2 ^ 24) k 0 (fraction_of z m k p (omega arith) (omega arith)) two24_of f (omega arith)),
    )
  where
    few : (r q : ℕ) → r < q → q ≤ 2 ^ 29 → r * 2 ^ 24 ≤ 2 ^ 53
    few r q h l = omega arith

pieces_are : (z : Float) (m : ℕ) → Of z m 29 → 0 < m → m < 2 ^ 53 → Pieces m (pieces_of z)
unfolding pieces_of
pieces_are z m p o h =
    let r = m % 2 ^ 29 in
    let a = piece_is z m 29 p (lit≤ tt) h (omega arith) in
    let z1 = (z ⊖ double (int z)) ⊗ two24 in
    let b = piece_is z1 r 5 (coarser_of z1 r 5 24 a.1) (lit≤ tt) (omega arith) (omega arith) in
    let z2 = (z1 ⊖ double (int z1)) ⊗ two24 in
    record {
      X0 = m / 2 ^ 29;
      X1 = r / 2 ^ 5;
      X2 = r % 2 ^ 5 * 2 ^ 19;
      parts = record { some = o; few = h; under0 = omega arith; under1 = omega arith; under2 = omega arith; sum = omega arith };
      is0 = a.0;
      is1 = b.0;
      is2 =
          let e : r % 2 ^ 5 * 2 ^ 24 ≡ r % 2 ^ 5 * 2 ^ 19 * 2 ^ 5 = omega arith in
          coarser_of z2 (r % 2 ^ 5 * 2 ^ 19) 0 5 (subst (λ (n : ℕ). Of z2 n 5) e b.1);
    }

-- tx of an angle
pub angle_pieces : (x : Float) → Pieces (significand_of x) (pieces_of (scaled_of x))
angle_pieces x = pieces_are (scaled_of x) (significand_of x) (scaled_is x) (omega arith) (omega arith)

-- jx: the pieces after it are 0
pub record Last (X1 X2 jx : ℕ) : Type 0 where
  pub few : jx ≤ 2
  pub none1 : jx < 1 → X1 ≡ 0
  pub none2 : jx < 2 → X2 ≡ 0

pub last_is : (m : ℕ) (tx : List Float) (p : Pieces m tx) → Last p.X1 p.X2 (jx_of tx)
unfolding jx_of
last_is m tx p =
    go (get_or tx 2 nan ==? positive_zero) (get_or tx 1 nan ==? positive_zero) (told_zero (get_or tx 2 nan) p.X2 0 p.is2)
    (told_zero (get_or tx 1 nan) p.X1 0 p.is1)
  where
    go : (a b : Bool) → (a ≡ true → p.X2 ≡ 0) → (b ≡ true → p.X1 ≡ 0) → Last p.X1 p.X2 (pick a (pick b 0 1) 2)
    go false b f g = record { few = lit≤ tt; none1 = λ h. absurd (omega arith); none2 = λ h. absurd (omega arith) }
    go true false f g = record { few = lit≤ tt; none1 = λ h. absurd (omega arith); none2 = λ h. f refl }
    go true true f g = record { few = lit≤ tt; none1 = λ h. g refl; none2 = λ h. f refl }

-- ---- the exponents

-- a difference of two naturals, by the greater
difference : (P : ℤ → Type 0) (a b : ℕ) → 0 < b → (b ≤ a → P (pos (a - b))) → (a < b → P (negsuc (b - suc a))) → P (pos a -ℤ pos b)
difference P a zero h p q = absurd (omega arith)
difference P a (suc b) h p q = go (ltb a (suc b)) (ltb→lt a (suc b)) (nltb→le a (suc b))
  where
    go : (t : Bool) → (T t → a < suc b) → (T (not t) → suc b ≤ a) → P (cond t (negsuc (suc b - suc a)) (pos (a - suc b)))
    go true f g = q (f tt)
    go false f g = p (g tt)

-- the C's jv, from e0
pub jv_is : (x : Float) → jv_of (e0_of x) ≡ jv (exponent_of x)
jv_is x = go (exponent_of x)
  where
    go : (e : ℕ) → jv_of (pos e -ℤ pos 1046) ≡ jv e
    go e = difference (λ (z : ℤ). jv_of z ≡ jv e) e 1046 (lit< tt) (λ h. let f : (e - 1046 - 3) / 24 ≡ (e - 1049) / 24 = omega arith in f)
        (λ h. let f : 0 ≡ (e - 1049) / 24 = omega arith in f)

-- q0 is from -27 to 2, and the weight of one follows from it
pub record Placed (e : ℕ) (q0 : ℤ) : Type 0 where
  pub least : negsuc 26 ≤ℤ q0
  pub most : q0 ≤ℤ pos 2
  pub weight : (jz : ℕ) → 4 ≤ jz → weight_of_one jz q0 ≡ one_at e jz

placed : (e : ℕ) → 1043 ≤ e → e ≤ 2046 → Placed e (pos e -ℤ pos (1046 + 24 * (jv e + 1)))
placed e h l = difference (Placed e) e (1046 + 24 * (jv e + 1)) (omega arith)
    (λ p. record {
      least = omega (arith, ints);
      most = omega (arith, ints);
      weight = λ jz j. ap (λ (i : ℕ). 2 ^ i) (let f : 24 * jz - (e - (1046 + 24 * (jv e + 1))) ≡ 24 * jz + 1023 - raised_q0 e = omega arith in f);
    })
    (λ p. record {
      least = omega (arith, ints);
      most = omega (arith, ints);
      weight = λ jz j. ap (λ (i : ℕ). 2 ^ i)
          (let f : 24 * jz + (1046 + 24 * (jv e + 1) - suc e) + 1 ≡ 24 * jz + 1023 - raised_q0 e = omega arith in f);
    })

pub q0_placed : (x : Float) → 1043 ≤ exponent_of x → exponent_of x ≤ 2046 → Placed (exponent_of x) (q0_of (e0_of x))
q0_placed x h l = subst (Placed (exponent_of x)) (sym (go (exponent_of x) (jv_of (e0_of x)) (jv_is x))) (placed (exponent_of x) h l)
  where
    go : (e j : ℕ) → j ≡ jv e → pos e -ℤ pos 1046 -ℤ pos (24 * (j + 1)) ≡ pos e -ℤ pos (1046 + 24 * (jv e + 1))
    go e j q = omega (arith, ints, q)
