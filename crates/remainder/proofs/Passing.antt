-- What `pass_of` gives, as whole numbers: where it leaves no fraction its digits are the terms' number without the multiples of the weight of one, or
-- what that is short of it.
use mathlib.Core.Logic.{◌⊎◌, inl, inr}
use mathlib.Core.Path.{◌≡◌, refl, sym, ap, ◌∙◌, subst}
use mathlib.Core.Bool.{Bool, true, false, not}
use mathlib.Core.List.{List}
use Prim.Native.Nat.{ℕ, zero, suc, ◌+◌, ◌-◌, ◌*◌, ◌/◌, ◌%◌, ◌^◌, ◌≤◌, ◌<◌, zero-le}
use native.Mathlib.Nat.{sub-zero, mul-one, zero-mod, suc-mul, one-mul, mul_assoc, add_comm, mod-lt, mod-le, mod-eq_of_lt}
use native.Mathlib.Nat.{div-add-mod', div-le_self, le_trans, le_of_eq, lt_of_le_of_lt, lt_of_lt_of_le, mul-le-mul_right}
use native.Mathlib.Nat.{div-le_of_le-mul, mul-pos, mod-eq-sub-div-mul, div-mul-le_self, add-mul-mod_self_right}
use native.Mathlib.Omega.{arith}
use borrow.Author.Tests.{eqb-true, eqb-false}
use lib.Arith.{digits_lt, digits_mod}
use lib.Bits.{bit_and, and_mask}
use lib.Dec.{eqb, lit<, lit≤}
use lib.IntN.{ℤ, pos, negsuc}
use lib.ListN.{length, get_or, set, length-set}
use lib.Pow.{field, pow_pos, pow_mono, mod-mod-pow}
use lib.Seq.{get_or-set_other}
use lib.Signed.{◌≤ℤ◌}
use lib.Ieee.{Float, nan, to_unsigned}
use Rattle.std.proofs.lemmas.Int.{ints}
use Rattle.loops.specs.Loop.{pick}
use Rattle.loops.proofs.Loop.{ranged_keeps_at}
use Rattle.number.specs.Operators.{◌⊖◌, ◌⊗◌, ◌≤?◌, ◌==?◌}
use Rattle.number.specs.Helpers.{positive_zero, one, half}
use Rattle.number.proofs.Powers.{pow_sum}
use Rattle.remainder.specs.Machine.{double, int, floor, scalbn}
use Rattle.remainder.specs.Kernel.{eight, eighth, distill_of, trimmed_of, Cut, cut_of, below_point, Complemented, complemented, opposite_of, carried_of}
use Rattle.remainder.specs.Kernel.{complement_step, complement_of, masked_of, flipped_of, Passed, passed, turned_of, pass_of}
use Rattle.remainder.proofs.Entries.{entries_set}
use Rattle.remainder.proofs.Exactly.{Of, double_of, minus_of, times_of, whole_over, scalbn_of, whole_of, fraction_of, told_zero}
use Rattle.remainder.proofs.Exactly.{eight_of, eighth_of, one_of}
use Rattle.remainder.proofs.Weighing.{Digits, value_of, value_more, value_set, value_below, sum_of_terms}
use Rattle.remainder.proofs.Distilling.{whole_is, distill_is}

-- the weight of one
abbrev pub weight_of_one : ℕ → ℤ → ℕ
weight_of_one jz (pos a) = 2 ^ (24 * jz - a)
weight_of_one jz (negsuc b) = 2 ^ (24 * jz + b + 1)

-- ---- the rest z: scaled, without the whole part

-- z -= 8.0*floor(z*0.125), for z = Y / 2 ^ k
trim_is : (y : Float) (Y k : ℕ) → Of y Y k → Y < 2 ^ 53 → k ≤ 27 → Of (y ⊖ eight ⊗ floor (y ⊗ eighth)) (Y % 2 ^ (3 + k)) k
trim_is y Y k p h K =
    let F = Y / 2 ^ (k + 3) in
    let x = y ⊗ eighth in
    let e : Of x Y (k + 3) = subst (λ (n : ℕ). Of x n (k + 3)) (mul-one Y) (times_of y eighth Y 1 k 3 p eighth_of (omega arith) (omega arith)) in
    let f : to_unsigned 53 x ≡ F = whole_of 53 x Y (k + 3) e (lt_of_le_of_lt (div-le_self Y (2 ^ (k + 3))) h) in
    let small : F ≤ 2 ^ 50 = few Y (2 ^ (k + 3)) (pow_mono {i = 3} {j = k + 3} (omega arith)) h in
    let d : Of (floor x) F 0 = subst (λ (n : ℕ). Of (double n) F 0) (sym f) (double_of F (omega arith)) in
    let u = whole_over (eight ⊗ floor x) (8 * F) k (times_of eight (floor x) 8 F 0 0 eight_of d (omega arith) zero-le) (omega arith) in
    let w : 8 * F * 2 ^ k ≡ F * 2 ^ (k + 3) = let g = ap (λ (n : ℕ). F * n) (pow_sum k 3 (k + 3) refl) in omega (arith, g) in
    subst (λ (n : ℕ). Of (y ⊖ eight ⊗ floor x) n k)
    (ap (λ (n : ℕ). Y - n) w ∙ sym (mod-eq-sub-div-mul Y (2 ^ (k + 3))) ∙ ap (λ (i : ℕ). Y % 2 ^ i) (add_comm k 3))
    (minus_of y (eight ⊗ floor x) Y (8 * F * 2 ^ k) k p u (le_trans (le_of_eq w) (div-mul-le_self Y (2 ^ (k + 3)))) (omega arith))
  where
    few : (Y m : ℕ) → 8 ≤ m → Y < 2 ^ 53 → Y / m ≤ 2 ^ 50
    few Y m h l = div-le_of_le-mul m (let g = mul-le-mul_right (2 ^ 50) h in omega (arith, g))

-- z, scaled and without its whole part
abbrev rest_of : Float → ℤ → Float
rest_of z q0 = trimmed_of z q0 ⊖ double (int (trimmed_of z q0))

-- n = (int) z and z -= (double)n, for q0 below 0
rest_is : (z : Float) (Z : ℕ) → Of z Z 0 → Z < 2 ^ 51 → (b : ℕ) → b ≤ 26 → Of (rest_of z (negsuc b)) (Z % 2 ^ (b + 1)) (b + 1)
unfolding trimmed_of
rest_is z Z p h b l =
    let y = scalbn z (negsuc b) in
    let k = b + 1 in
    let t = y ⊖ eight ⊗ floor (y ⊗ eighth) in
    let s : Of t (Z % 2 ^ (3 + k)) k = trim_is y Z k (scalbn_of z Z b p (omega arith) (omega arith)) (omega arith) (omega arith) in
    subst (λ (n : ℕ). Of (t ⊖ double (int t)) n k) (mod-mod-pow Z 3 k)
    (fraction_of t (Z % 2 ^ (3 + k)) k s (let e = field Z 3 k in omega (arith, e)) (let e = mod-le Z (2 ^ (3 + k)) in omega (arith, e)))

-- ---- the complement

-- v and its complement u, which are p together, where v is not 0 and there is a carry; without a carry both are 0
abbrev Opposite : ℕ → ℕ → ℕ → Bool → Type 0
Opposite v u p false = (v ≡ 0) × (u ≡ 0)
Opposite v u p true = (0 < v) × (u + v ≡ p)

opposite_step : (v u p j : ℕ) (c : Bool) → 0 < p → j < 2 ^ 24 → Opposite v u p c
    → Opposite (v + j * p) (u + opposite_of j c * p) (p * 2 ^ 24) (carried_of j c)
unfolding opposite_of carried_of
opposite_step v u p j true P h s =
    let k = 0xffffff - j in
    let e : k + j ≡ 0xffffff = omega arith in
    let f = ap (λ (n : ℕ). n * p) e in
    let g : 0 < v = s.0 in
    let i : u + v ≡ p = s.1 in
    (omega (arith, g), omega (arith, f, i))
opposite_step v u p j false P h s = go (eqb j 0) (eqb-true j 0) (eqb-false j 0)
  where
    go : (b : Bool) → (b ≡ true → j ≡ 0) → (b ≡ false → j ≡ 0 → ⊥)
        → Opposite (v + j * p) (u + pick b 0 (0x1000000 - j) * p) (p * 2 ^ 24) (not b)
    go true y n =
        let e = ap (λ (i : ℕ). i * p) (y refl) in
        let f : v ≡ 0 = s.0 in
        let g : u ≡ 0 = s.1 in
        (omega (arith, e, f), omega (arith, g))
    go false y n =
        let k = 0x1000000 - j in
        let z = n refl in
        let some : 0 < j = omega (arith, z) in
        let e : k + j ≡ 0x1000000 = omega arith in
        let f = ap (λ (i : ℕ). i * p) e in
        let g : v ≡ 0 = s.0 in
        let i : u ≡ 0 = s.1 in
        (le_trans (mul-pos some P) (omega (arith, g)), omega (arith, f, g, i))

opposite_small : (j : ℕ) (c : Bool) → j < 2 ^ 24 → opposite_of j c < 2 ^ 24
unfolding opposite_of
opposite_small j true h = omega arith
opposite_small j false h = go (eqb j 0) (eqb-false j 0)
  where
    go : (b : Bool) → (b ≡ false → j ≡ 0 → ⊥) → pick b 0 (0x1000000 - j) < 2 ^ 24
    go true n = lit< tt
    go false n = let z = n refl in omega (arith, z)

-- the complement of the first n digits: all 0 with no carry where they were, and else what is left to 2 ^ (24 n)
record Complement (iq : List ℕ) (n : ℕ) (s : Complemented) : Type 0 where
  pub small : Digits s.digits n
  pub kept : length s.digits ≡ length iq
  pub same : (k : ℕ) → n ≤ k → get_or s.digits k 0 ≡ get_or iq k 0
  pub sums : Opposite (value_of iq n) (value_of s.digits n) (2 ^ (24 * n)) s.carry

module _ (iq : List ℕ) (n : ℕ) (d : Digits iq n) (room : n ≤ length iq) where
  turn : (i : ℕ) (s : Complemented) → i < n → Complement iq i s → Complement iq (i + 1) (complement_step i s)
  turn i s h a =
      let j = get_or s.digits i 0 in
      let o = opposite_of j s.carry in
      let p = 2 ^ (24 * i) in
      let e : j ≡ get_or iq i 0 = a.same i (omega arith) in
      let small : j < 2 ^ 24 = subst (λ (k : ℕ). k < 2 ^ 24) (sym e) (d i h) in
      let inside : i < length s.digits = let k = a.kept in omega (arith, k) in
      record {
        small = entries_set s.digits i o 0 inside (λ k m. m < 2 ^ 24) a.small (opposite_small j s.carry small);
        kept = length-set s.digits i o ∙ a.kept;
        same = λ k g. get_or-set_other s.digits i k o 0 (λ q. absurd (let x = q in omega arith)) ∙ a.same k (omega arith);
        sums =
            rw (value_more iq i, ← e, value_set s.digits i o inside, ← pow_sum (24 * i) 24 (24 * (i + 1)) (omega arith))
            (opposite_step (value_of iq i) (value_of s.digits i) p j s.carry (pow_pos (24 * i)) small a.sums);
      }

  complement_is : Complement iq n (complement_of iq n)
  unfolding complement_of
  complement_is =
      ranged_keeps_at complement_step (Complement iq) 0 n turn zero-le (complemented iq false)
      (record { small = λ i h. absurd (omega arith); kept = refl; same = λ k h. refl; sums = (refl, refl) })

-- ---- the last digit's lower bits

-- v + top * p without the multiples of c * p
low_bits : (v top p c : ℕ) → v < p → 0 < c → (v + top * p) % (c * p) ≡ v + top % c * p
low_bits v top p c h C =
    ap (λ (x : ℕ). x % (c * p)) (split (top / c) (top % c) (ap (λ (x : ℕ). x * p) (div-add-mod' top c)))
    ∙ digits_mod (top / c) {m = c * p} {r = top % c * p + v} (digits_lt (mod-lt top C) h)
    ∙ add_comm (top % c * p) v
  where
    split : (q r : ℕ) → (q * c + r) * p ≡ top * p → v + top * p ≡ q * (c * p) + (r * p + v)
    split q r e = omega (arith, e)

-- m has as many digits as l, and their number is l's without the multiples of w
record Lower (l : List ℕ) (jz w : ℕ) (m : List ℕ) : Type 0 where
  pub small : Digits m jz
  pub kept : length m ≡ length l
  pub exact : value_of m jz ≡ value_of l jz % w

module _ (l : List ℕ) (jz : ℕ) (some : 0 < jz) (room : jz ≤ length l) (d : Digits l jz) where
  all : jz - 1 + 1 ≡ jz
  all = omega arith

  abbrev top : ℕ
  top = get_or l (jz - 1) 0

  -- its lower 24 - a bits stay
  lower_top : (a x : ℕ) → a ≤ 24 → x ≡ top % 2 ^ (24 - a) → Lower l jz (2 ^ (24 * jz - a)) (set l (jz - 1) x)
  lower_top a x h e =
      let c = 2 ^ (24 - a) in
      let p = 2 ^ (24 * (jz - 1)) in
      let v = value_of l (jz - 1) in
      let few : x < 2 ^ 24 = lt_of_le_of_lt (le_trans (le_of_eq e) (mod-le top c)) (d (jz - 1) (omega arith)) in
      record {
        small = subst (Digits (set l (jz - 1) x)) all (entries_set l (jz - 1) x 0 (omega arith) (λ i n. n < 2 ^ 24) (λ i k. d i (omega arith)) few);
        kept = length-set l (jz - 1) x;
        exact =
            ap (value_of (set l (jz - 1) x)) (sym all)
            ∙ value_set l (jz - 1) x (omega arith)
            ∙ ap (λ (n : ℕ). v + n * p) e
            ∙ sym (low_bits v top p c (value_below l (jz - 1) (λ i k. d i (omega arith))) (pow_pos (24 - a)))
            ∙ ap (λ (n : ℕ). n % (c * p)) (sym (value_more l (jz - 1)) ∙ ap (value_of l) all)
            ∙ ap (λ (n : ℕ). value_of l jz % n) (pow_sum (24 - a) (24 * (jz - 1)) (24 * jz - a) (omega arith));
      }

  lower_none : Lower l jz (2 ^ (24 * jz - 0)) l
  lower_none = record {
    small = d;
    kept = refl;
    exact = sym (mod-eq_of_lt (lt_of_lt_of_le (value_below l jz d) (le_of_eq (ap (λ (i : ℕ). 2 ^ i) (sym (sub-zero (24 * jz)))))));
  }

  mask_is : (a : ℕ) → a ≤ 2 → Lower l jz (2 ^ (24 * jz - a)) (masked_of l jz (pos a))
  mask_is zero h = lower_none
  mask_is (suc zero) h = lower_top 1 (bit_and top 0x7fffff) (lit≤ tt) (and_mask top 23)
  mask_is (suc (suc zero)) h = lower_top 2 (bit_and top 0x3fffff) (lit≤ tt) (and_mask top 22)
  mask_is (suc (suc (suc a))) h = absurd (omega arith)

  cut_is : (n : ℕ) (z : Float) (a : ℕ) → a ≤ 2 → Lower l jz (2 ^ (24 * jz - a)) (cut_of l n z jz (pos a)).digits
  cut_is n z zero h = lower_none
  cut_is n z (suc k) h = lower_top (suc k) (below_point l jz (suc k)) (omega arith) (sym (mod-eq-sub-div-mul top (2 ^ (24 - suc k))))

-- ---- a pass

-- What a pass leaves of t, where w is the weight of one. Where its z is 0 the digits are t without the multiples of w, or what that is short of w.
pub record Settled (t w jz : ℕ) (iq : List ℕ) (p : Passed) : Type 0 where
  pub kept : length p.digits ≡ length iq
  pub small : Digits p.digits jz
  pub exact : (p.pass.z ==? positive_zero) ≡ true → (value_of p.digits jz ≡ t % w) ⊎ (value_of p.digits jz + t % w ≡ w)

-- u is the complement of v up to a multiple of w
masked_sum : (v u m w s : ℕ) (c : Bool) → Opposite v u (s * w) c → v < w → m ≡ u % w → (m ≡ v) ⊎ (m + v ≡ w)
masked_sum v u m w s false o h e = inl (e ∙ ap (λ (n : ℕ). n % w) o.1 ∙ zero-mod w ∙ sym o.0)
masked_sum v u m w zero true o h e = absurd (let f : 0 < v = o.0 in let g : u + v ≡ 0 * w = o.1 in omega arith)
masked_sum v u m w (suc s) true o h e =
    let f : 0 < v = o.0 in
    let g : u + v ≡ suc s * w = o.1 in
    let i : u ≡ s * w + (w - v) = omega (arith, g, suc-mul s w) in
    let k : m ≡ w - v = e ∙ ap (λ (n : ℕ). n % w) i ∙ digits_mod s (omega arith) in
    inr (omega arith)

module _ (t jz : ℕ) (some : 0 < jz) (iq : List ℕ) (room : jz ≤ length iq) (z : Float) where
  -- for q0 from 0 to 2
  turned_up : (a : ℕ) → a ≤ 2 → (c : Cut) → length c.digits ≡ length iq → Digits c.digits jz → value_of c.digits jz ≡ t % 2 ^ (24 * jz - a)
      → Settled t (2 ^ (24 * jz - a)) jz iq (turned_of c z jz (pos a))
  unfolding turned_of
  turned_up a h c k d e = go (eqb c.ih 0)
    where
      go : (b : Bool) → let s = complement_of c.digits jz in
          Settled t (2 ^ (24 * jz - a)) jz iq
          (pick b (passed c.digits (record { n = c.n; ih = c.ih; z = z }))
          (passed (masked_of s.digits jz (pos a)) (record { n = c.n + 1; ih = c.ih; z = flipped_of z c.ih s.carry (pos a) })))
      go true = record { kept = k; small = d; exact = λ g. inl e }
      go false =
          let w = 2 ^ (24 * jz - a) in
          let r = complement_is c.digits jz d (omega arith) in
          let s = complement_of c.digits jz in
          let v = value_of c.digits jz in
          let m = mask_is s.digits jz some (let i = r.kept in omega (arith, i)) r.small a h in
          record {
            kept = m.kept ∙ r.kept ∙ k;
            small = m.small;
            exact = λ g.
                subst (λ (v : ℕ). (value_of (masked_of s.digits jz (pos a)) jz ≡ v) ⊎ (value_of (masked_of s.digits jz (pos a)) jz + v ≡ w)) e
                (masked_sum v (value_of s.digits jz) (value_of (masked_of s.digits jz (pos a)) jz) w (2 ^ a) s.carry
                (subst (λ (p : ℕ). Opposite v (value_of s.digits jz) p s.carry) (sym (pow_sum a (24 * jz - a) (24 * jz) (omega arith))) r.sums)
                (lt_of_le_of_lt (le_of_eq e) (mod-lt t (pow_pos (24 * jz - a))))
                m.exact);
          }

  -- for q0 below 0, where z is B / 2 ^ (b + 1)
  module _ (Z b : ℕ) (h : b ≤ 26) (l : List ℕ) (k : length l ≡ length iq) (d : Digits l jz) (o : Of z (Z % 2 ^ (b + 1)) (b + 1))
      (e : value_of l jz + Z * 2 ^ (24 * jz) ≡ t) where
    abbrev M : ℕ
    M = 2 ^ (b + 1)

    abbrev B : ℕ
    B = Z % M

    abbrev w : ℕ
    w = 2 ^ (24 * jz + b + 1)

    below : B < M
    below = mod-lt Z (pow_pos (b + 1))

    most : M ≤ 2 ^ 27
    most = pow_mono {i = b + 1} {j = 27} (omega arith)

    -- one - z
    less_is : Of (one ⊖ z) (M - B) (b + 1)
    less_is =
        minus_of one z M B (b + 1) (subst (λ (n : ℕ). Of one n (b + 1)) (one-mul M) (whole_over one 1 (b + 1) one_of (omega arith))) o
        (let f = below in omega arith) (let f = most in omega arith)

    -- one - z, and z -= scalbn(one,q0)
    least_is : Of (one ⊖ z ⊖ scalbn one (negsuc b)) (M - B - 1) (b + 1)
    least_is =
        minus_of (one ⊖ z) (scalbn one (negsuc b)) (M - B) 1 (b + 1) less_is (scalbn_of one 1 b one_of (lit≤ tt) (omega arith))
        (let f = below in omega arith) (let f = most in omega arith)

    weight : M * 2 ^ (24 * jz) ≡ w
    weight = pow_sum (b + 1) (24 * jz) (24 * jz + b + 1) (omega arith)

    -- t without the multiples of the weight of one
    left : t % w ≡ value_of l jz + B * 2 ^ (24 * jz)
    left =
        ap (λ (n : ℕ). n % w) (sym e)
        ∙ ap (λ (n : ℕ). (value_of l jz + Z * 2 ^ (24 * jz)) % n) (sym weight)
        ∙ low_bits (value_of l jz) Z (2 ^ (24 * jz)) M (value_below l jz d) (pow_pos (b + 1))

    -- z becomes 1 - z
    flipped_is : (m : List ℕ) (n : ℕ) (c : Bool) → length m ≡ length iq → Digits m jz → Opposite (value_of l jz) (value_of m jz) (2 ^ (24 * jz)) c
        → Settled t w jz iq (passed m (record { n = n; ih = 2; z = pick c (one ⊖ z ⊖ scalbn one (negsuc b)) (one ⊖ z) }))
    flipped_is m n false f g s = record {
      kept = f;
      small = g;
      exact = λ y. absurd (let i = told_zero (one ⊖ z) (M - B) (b + 1) less_is y in let v = below in omega arith);
    }
    flipped_is m n true f g s = record {
      kept = f;
      small = g;
      exact = λ y. inr (ap (λ (n : ℕ). value_of m jz + n) left
          ∙ whole (value_of l jz) (value_of m jz) B M (2 ^ (24 * jz)) s.1 (told_zero (one ⊖ z ⊖ scalbn one (negsuc b)) (M - B - 1) (b + 1) least_is y) below
          ∙ weight);
    }
      where
        whole : (v u B M p : ℕ) → u + v ≡ p → M - B - 1 ≡ 0 → B < M → u + (v + B * p) ≡ M * p
        whole v u B M p a c k = let f : B + 1 ≡ M = omega arith in let g = ap (λ (n : ℕ). n * p) f in omega (arith, g, a)

    turned_down : (n : ℕ) → Settled t w jz iq (turned_of (record { digits = l; n = n; ih = pick (half ≤? z) 2 0 }) z jz (negsuc b))
    unfolding turned_of flipped_of
    turned_down n = go (half ≤? z)
      where
        go : (x : Bool) → Settled t w jz iq (turned_of (record { digits = l; n = n; ih = pick x 2 0 }) z jz (negsuc b))
        go true =
            let r = complement_is l jz d (omega arith) in
            flipped_is (complement_of l jz).digits (n + 1) (complement_of l jz).carry (r.kept ∙ k) r.small r.sums
        go false = record {
          kept = k;
          small = d;
          exact = λ y. inl (sym (left ∙ let f = ap (λ (n : ℕ). n * 2 ^ (24 * jz)) (told_zero z B (b + 1) o y) in omega (arith, f)));
        }

-- multiples of 2 ^ (24 jz) are multiples of the weight of one
same_mod : (v Z t a jz : ℕ) → 0 < jz → a ≤ 2 → v + Z * 2 ^ (24 * jz) ≡ t → v % 2 ^ (24 * jz - a) ≡ t % 2 ^ (24 * jz - a)
same_mod v Z t a jz some h e =
    let w = 2 ^ (24 * jz - a) in
    let p : 2 ^ a * w ≡ 2 ^ (24 * jz) = pow_sum a (24 * jz - a) (24 * jz) (omega arith) in
    sym (add-mul-mod_self_right v (Z * 2 ^ a) w)
    ∙ ap (λ (n : ℕ). (v + n) % w) (mul_assoc Z (2 ^ a) w ∙ ap (λ (n : ℕ). Z * n) p)
    ∙ ap (λ (n : ℕ). n % w) e

module _ (q : List Float) (Q : ℕ → ℕ) (jz : ℕ) (iq : List ℕ) (are : (i : ℕ) → i ≤ jz → Of (get_or q i nan) (Q i) 0)
    (few : (i : ℕ) → i ≤ jz → Q i < 2 ^ 50) (room : jz ≤ length iq) (some : 0 < jz) where
  pub pass_is : (q0 : ℤ) → negsuc 26 ≤ℤ q0 → q0 ≤ℤ pos 2 → Settled (sum_of_terms Q (suc jz)) (weight_of_one jz q0) jz iq (pass_of iq q jz q0)
  unfolding pass_of
  pass_is (pos a) l h =
      let d = distill_is q Q jz iq are few room in
      let s = distill_of q jz iq in
      let w = whole_is Q jz iq s d in
      let n = int (trimmed_of s.z (pos a)) in
      let z = rest_of s.z (pos a) in
      let few : a ≤ 2 = omega (arith, ints, h) in
      let c = cut_is s.digits jz some (let e = d.kept in omega (arith, e)) d.small n z a few in
      turned_up (sum_of_terms Q (suc jz)) jz some iq room z a few (cut_of s.digits n z jz (pos a)) (c.kept ∙ d.kept) c.small
      (c.exact ∙ same_mod (value_of s.digits jz) d.rest (sum_of_terms Q (suc jz)) a jz some few w)
  pass_is (negsuc b) l h =
      let d = distill_is q Q jz iq are few room in
      let s = distill_of q jz iq in
      let w = whole_is Q jz iq s d in
      let few : b ≤ 26 = omega (arith, ints, l) in
      turned_down (sum_of_terms Q (suc jz)) jz some iq room (rest_of s.z (negsuc b)) d.rest b few s.digits d.kept d.small
      (rest_is s.z d.rest d.is d.under b few) w (int (trimmed_of s.z (negsuc b)))
