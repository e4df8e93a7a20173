-- What `distill_of` gives, as whole numbers: the digits and the rest are together the number that the terms were.
use mathlib.Core.Path.{◌≡◌, refl, sym, ap, ◌∙◌, subst}
use mathlib.Core.List.{List}
use Prim.Native.Nat.{ℕ, suc, ◌+◌, ◌-◌, ◌*◌, ◌/◌, ◌%◌, ◌^◌, ◌≤◌, ◌<◌, zero-le}
use native.Mathlib.Nat.{sub-zero, sub_self, one-mul, mod-lt, mod-eq-sub-mul-div, div-add-mod', div-one}
use native.Mathlib.Omega.{arith}
use lib.Dec.{lit≤}
use lib.ListN.{length, get_or, set, length-set}
use lib.Pow.{pow_pos}
use lib.Ieee.{Float, nan}
use Rattle.loops.proofs.Loop.{ranged_keeps_at}
use Rattle.number.specs.Operators.{◌⊖◌, ◌⊗◌}
use Rattle.number.proofs.Powers.{pow_sum}
use Rattle.remainder.specs.Machine.{double, int}
use Rattle.remainder.specs.Kernel.{two24, twon24, Distilled, distilled, distill_step, distill_of}
use Rattle.remainder.proofs.Entries.{entries_set}
use Rattle.remainder.proofs.Exactly.{Of, double_of, plus_of, minus_of, times_of, int_of, two24_of, twon24_of}
use Rattle.remainder.proofs.Weighing.{Digits, value_of, value_set, sum_of_terms}

-- ---- one iteration

-- Z's lowest digit d joins the digits v, and the rest goes to the term k before; p, w and u are weights of three places that follow
step_sum : (v' v d Z p w u r k n t : ℕ) → v' ≡ v + d * p → d ≡ Z % 2 ^ 24 → p * 2 ^ 24 ≡ w → w * 2 ^ 24 ≡ u
    → n ≡ r * 2 ^ 24 + k → v + Z * p + n * w ≡ t → v' + (k + Z / 2 ^ 24) * w + r * u ≡ t
step_sum v' v d Z p w u r k n t a b c e f h =
    let split = ap (λ (x : ℕ). x * p) (div-add-mod' Z (2 ^ 24)) in
    let digit = ap (λ (x : ℕ). x * p) b in
    let carry = ap (λ (x : ℕ). Z / 2 ^ 24 * x) c in
    let term = ap (λ (x : ℕ). x * w) f in
    let terms = ap (λ (x : ℕ). r * x) e in
    omega (arith, split, digit, carry, term, terms, a, h)

module _ (z : Float) (Z : ℕ) (p : Of z Z 0) (h : Z < 2 ^ 51) where
  -- twon24*z, its whole part
  high_is : int (twon24 ⊗ z) ≡ Z / 2 ^ 24
  high_is =
      int_of (twon24 ⊗ z) (1 * Z) 24 (times_of twon24 z 1 Z 24 0 twon24_of p (omega arith) (lit≤ tt)) (omega arith)
      ∙ ap (λ (n : ℕ). n / 2 ^ 24) (one-mul Z)

  carried_is : Of (double (int (twon24 ⊗ z))) (Z / 2 ^ 24) 0
  carried_is = subst (λ (n : ℕ). Of (double n) (Z / 2 ^ 24) 0) (sym high_is) (double_of (Z / 2 ^ 24) (omega arith))

  low_is : int (z ⊖ two24 ⊗ double (int (twon24 ⊗ z))) ≡ Z % 2 ^ 24
  low_is =
      let fw = double (int (twon24 ⊗ z)) in
      let m = times_of two24 fw (2 ^ 24) (Z / 2 ^ 24) 0 0 two24_of carried_is (omega arith) zero-le in
      let d = minus_of z (two24 ⊗ fw) Z (2 ^ 24 * (Z / 2 ^ 24)) 0 p m (omega arith) (omega arith) in
      int_of (z ⊖ two24 ⊗ fw) (Z - 2 ^ 24 * (Z / 2 ^ 24)) 0 d (omega arith)
      ∙ ap (λ (n : ℕ). n / 1) (sym (mod-eq-sub-mul-div Z (2 ^ 24)))
      ∙ div-one (Z % 2 ^ 24)

-- ---- the loop

-- after i iterations: i digits, the rest z, and the terms before it
pub record After (Q : ℕ → ℕ) (jz : ℕ) (iq : List ℕ) (i : ℕ) (s : Distilled) : Type 0 where
  pub rest : ℕ
  pub is : Of s.z rest 0
  pub under : rest < 2 ^ 51
  pub small : Digits s.digits i
  pub kept : length s.digits ≡ length iq
  pub exact : value_of s.digits i + rest * 2 ^ (24 * i) + sum_of_terms Q (jz - i) * 2 ^ (24 * (i + 1)) ≡ sum_of_terms Q (suc jz)

-- at the end no terms are left
pub whole_is : (Q : ℕ → ℕ) (jz : ℕ) (iq : List ℕ) (s : Distilled) (a : After Q jz iq jz s)
    → value_of s.digits jz + a.rest * 2 ^ (24 * jz) ≡ sum_of_terms Q (suc jz)
whole_is Q jz iq s a =
    let e = ap (λ (i : ℕ). sum_of_terms Q i * 2 ^ (24 * (jz + 1))) (sub_self jz) in
    let h = a.exact in
    omega (arith, e, h)

module _ (q : List Float) (Q : ℕ → ℕ) (jz : ℕ) (iq : List ℕ) (are : (i : ℕ) → i ≤ jz → Of (get_or q i nan) (Q i) 0)
    (few : (i : ℕ) → i ≤ jz → Q i < 2 ^ 50) (room : jz ≤ length iq) where
  step : (i : ℕ) (s : Distilled) → i < jz → After Q jz iq i s → After Q jz iq (i + 1) (distill_step q jz i s)
  step i s h a =
      let Z = a.rest in
      let z = s.z in
      let j = jz - 1 - i in
      let fw = double (int (twon24 ⊗ z)) in
      let d = int (z ⊖ two24 ⊗ fw) in
      let k = few j (omega arith) in
      let inside : i < length s.digits = let k = a.kept in omega (arith, k) in
      let e : jz - i ≡ suc j = omega arith in
      let f : jz - (i + 1) ≡ j = omega arith in
      record {
        rest = Q j + Z / 2 ^ 24;
        is = plus_of (get_or q j nan) fw (Q j) (Z / 2 ^ 24) 0 (are j (omega arith)) (carried_is z Z a.is a.under) (sum_under (Q j) Z k a.under).0;
        under = (sum_under (Q j) Z k a.under).1;
        small = entries_set s.digits i d 0 inside (λ j n. n < 2 ^ 24) a.small
            (subst (λ (n : ℕ). n < 2 ^ 24) (sym (low_is z Z a.is a.under)) (mod-lt Z (pow_pos 24)));
        kept = length-set s.digits i d ∙ a.kept;
        exact =
            step_sum (value_of (set s.digits i d) (i + 1)) (value_of s.digits i) d Z (2 ^ (24 * i)) (2 ^ (24 * (i + 1))) (2 ^ (24 * (i + 1 + 1)))
            (sum_of_terms Q (jz - (i + 1))) (Q j) (sum_of_terms Q (jz - i)) (sum_of_terms Q (suc jz)) (value_set s.digits i d inside)
            (low_is z Z a.is a.under) (pow_sum (24 * i) 24 (24 * (i + 1)) (omega arith)) (pow_sum (24 * (i + 1)) 24 (24 * (i + 1 + 1)) (omega arith))
            (ap (sum_of_terms Q) e ∙ ap (λ (n : ℕ). sum_of_terms Q n * 2 ^ 24 + Q j) (sym f)) a.exact;
      }
    where
      sum_under : (k Z : ℕ) → k < 2 ^ 50 → Z < 2 ^ 51 → (k + Z / 2 ^ 24 ≤ 2 ^ 53) × (k + Z / 2 ^ 24 < 2 ^ 51)
      sum_under k Z h l = (omega arith, omega arith)

  pub distill_is : After Q jz iq jz (distill_of q jz iq)
  unfolding distill_of
  distill_is = ranged_keeps_at (distill_step q jz) (After Q jz iq) 0 jz step zero-le (distilled iq (get_or q jz nan)) (record {
    rest = Q jz;
    is = are jz (omega arith);
    under = (let e = few jz (omega arith) in omega (arith, e));
    small = λ i h. absurd (omega arith);
    kept = refl;
    exact = let e = ap (sum_of_terms Q) (sub-zero jz) in omega (arith, e);
  })
