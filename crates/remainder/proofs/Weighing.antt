-- Digits of 24 bits as one number, terms as one number, and what the searches among digits find: `joined_of`, `needed_of`, `chop_of`.
use mathlib.Core.Path.{◌≡◌, refl, sym, ap, ap₂, ◌∙◌, subst}
use mathlib.Core.Bool.{Bool, true, false}
use mathlib.Core.List.{List}
use mathlib.Core.Logic.{⊎_elim}
use Prim.Native.Nat.{ℕ, zero, suc, ◌+◌, ◌-◌, ◌*◌, ◌^◌, ◌≤◌, ◌<◌, zero-le}
use native.Mathlib.Nat.{mul-le-mul_right}
use native.Mathlib.Numerals.{add-one}
use native.Mathlib.Omega.{arith}
use borrow.Author.Count.{below_more}
use borrow.Author.Tests.{eqb-true, eqb-false}
use lib.Bits.{bit_or}
use lib.Dec.{eqb, lit<, lit≤}
use lib.IntN.{ℤ, pos, ◌-ℤ◌}
use lib.ListN.{get_or, set, length}
use lib.Pow.{pow_pos, pow_mono}
use lib.Seq.{get_or-set_same, get_or-set_other}
use Rattle.std.specs.Prelude.{Option, Some}
use Rattle.std.proofs.lemmas.Bool.{cases_lt, cases_eq}
use Rattle.std.proofs.lemmas.Int.{ints}
use Rattle.std.proofs.lemmas.Nat.{le_or_l, le_or_r}
use Rattle.loops.specs.Loop.{pick, on, out}
use Rattle.loops.proofs.Loop.{Kept, ranged_keeps_at, searched_keeps_at}
use Rattle.number.proofs.Powers.{pow_sum}
use Rattle.remainder.specs.declared.sums.Held.{Held}
use Rattle.remainder.specs.Kernel.{digit_joined, joined_of, needed_step, none_needed, needed_of, chop_step, chop_end, chop_of}

-- the first n of the list are digits
abbrev pub Digits : List ℕ → ℕ → Type 0
Digits l n = (i : ℕ) → i < n → get_or l i 0 < 2 ^ 24

-- the first n as one number, the first of weight 1
abbrev pub value_of : List ℕ → ℕ → ℕ
value_of l zero = 0
value_of l (suc n) = value_of l n + get_or l n 0 * 2 ^ (24 * n)

-- Q 0 to Q (n - 1) as one number, the last of weight 1
abbrev pub sum_of_terms : (ℕ → ℕ) → ℕ → ℕ
sum_of_terms Q zero = 0
sum_of_terms Q (suc n) = sum_of_terms Q n * 2 ^ 24 + Q n

-- ---- laws of value_of

pub value_more : (l : List ℕ) (n : ℕ) → value_of l (n + 1) ≡ value_of l n + get_or l n 0 * 2 ^ (24 * n)
value_more l n = ap (value_of l) (add-one n)

value_same : (l m : List ℕ) (n : ℕ) → ((i : ℕ) → i < n → get_or l i 0 ≡ get_or m i 0) → value_of l n ≡ value_of m n
value_same l m zero h = refl
value_same l m (suc n) h =
    ap₂ (λ (v d : ℕ). v + d * 2 ^ (24 * n)) (value_same l m n (λ i k. h i (omega arith))) (h n (omega arith))

-- a digit put behind the first n
pub value_set : (l : List ℕ) (n d : ℕ) → n < length l → value_of (set l n d) (n + 1) ≡ value_of l n + d * 2 ^ (24 * n)
value_set l n d h =
    value_more (set l n d) n
    ∙ ap₂ (λ (v d : ℕ). v + d * 2 ^ (24 * n))
    (value_same (set l n d) l n (λ i k. get_or-set_other l n i d 0 (λ e. absurd (let x = e in omega arith)))) (get_or-set_same l n d 0 h)

pub value_below : (l : List ℕ) (n : ℕ) → Digits l n → value_of l n < 2 ^ (24 * n)
value_below l zero d = lit< tt
value_below l (suc n) d =
    let r : value_of l n < 2 ^ (24 * n) = value_below l n (λ i h. d i (omega arith)) in
    let k : suc (get_or l n 0) ≤ 2 ^ 24 = d n (omega arith) in
    omega (arith, mul-le-mul_right (2 ^ (24 * n)) k, pow_sum 24 (24 * n) (24 * suc n) (omega arith))

-- digits that are 0 at the end
value_shorter : (l : List ℕ) (m k : ℕ) → ((i : ℕ) → m ≤ i → i < m + k → get_or l i 0 ≡ 0) → value_of l (m + k) ≡ value_of l m
value_shorter l m zero d = ap (value_of l) (omega arith)
value_shorter l m (suc k) d =
    let e : m + suc k ≡ m + k + 1 = omega arith in
    let z = ap (λ (x : ℕ). x * 2 ^ (24 * (m + k))) (d (m + k) (omega arith) (omega arith)) in
    ap (value_of l) e ∙ omega (arith, z, value_more l (m + k), value_shorter l m k (λ i h n. d i h (omega arith)))

-- ---- joined_of

module _ (iq : List ℕ) (jz : ℕ) (h : 4 ≤ jz) where
  -- the digits that are joined are 0 where the whole is
  joined_zero : joined_of iq jz ≡ 0 → (i : ℕ) → 4 ≤ i → i < jz → get_or iq i 0 ≡ 0
  unfolding joined_of
  joined_zero e i p q =
      let f : i ≡ jz - 1 - (jz - 1 - i) = omega arith in
      ap (λ (n : ℕ). get_or iq n 0) f
      ∙ ranged_keeps_at (digit_joined iq jz) (λ t s. s ≡ 0 → (i : ℕ) → i < t → get_or iq (jz - 1 - i) 0 ≡ 0) 0 (jz - 4)
      (λ t s _ g e.
      let z = both s (get_or iq (jz - 1 - t) 0) e in
      below_more (λ (i : ℕ). get_or iq (jz - 1 - i) 0 ≡ 0) t (g z.0) z.1) zero-le 0 (λ _ i l. absurd (omega arith)) e (jz - 1 - i) (omega arith)
    where
      both : (s d : ℕ) → bit_or s d ≡ 0 → (s ≡ 0) × (d ≡ 0)
      both s d e =
          let l = le_or_l s d in
          let r = le_or_r s d in
          (omega (arith, e, l), omega (arith, e, r))

  -- and the whole is 0 where they are
  joined_none : ((i : ℕ) → 4 ≤ i → i < jz → get_or iq i 0 ≡ 0) → joined_of iq jz ≡ 0
  unfolding joined_of
  joined_none d =
      ranged_keeps_at (digit_joined iq jz) (λ t s. s ≡ 0) 0 (jz - 4) (λ t s l e. ap₂ bit_or e (d (jz - 1 - t) (omega arith) (omega arith))) zero-le 0 refl

  -- then the number has four digits
  pub joined_value : joined_of iq jz ≡ 0 → value_of iq jz ≡ value_of iq 4
  joined_value e =
      let f : jz ≡ 4 + (jz - 4) = omega arith in
      ap (value_of iq) f ∙ value_shorter iq 4 (jz - 4) (λ i p q. joined_zero e i p (omega arith))

-- ---- needed_of

module _ (iq : List ℕ) (j : ℕ) (d : Digits iq 4) where
  -- before k the first 5 - k digits are left, whose number takes more than j of them
  abbrev Left : ℕ → Unit {0} → Type 0
  Left k s = (1 ≤ k) × (2 ^ (24 * j) ≤ value_of iq (5 - k))

  -- a digit is found, the k-th from the last on, and j are before it
  abbrev pub Needed : Option ℕ → Type 0
  Needed r = (k : ℕ) × (r ≡ Some k) × (1 ≤ k) × (k + j ≤ 4)

  look : (k : ℕ) (s : Unit {0}) → k < 5 → Left k s → Kept (Left (k + 1)) Needed (needed_step iq k s)
  look k s h p = go (eqb (get_or iq (4 - k) 0) 0) (eqb-true (get_or iq (4 - k) 0) 0)
    where
      more : value_of iq (5 - k) ≡ value_of iq (4 - k) + get_or iq (4 - k) 0 * 2 ^ (24 * (4 - k))
      more =
          let e : 5 - k ≡ 4 - k + 1 = omega arith in
          ap (value_of iq) e ∙ value_more iq (4 - k)

      few : k + j ≤ 4
      few =
          let u : value_of iq (5 - k) < 2 ^ (24 * (5 - k)) = value_below iq (5 - k) (λ i l. d i (let o = p.0 in omega (arith, o))) in
          ⊎_elim
          (λ l.
          let g : 2 ^ (24 * (5 - k)) ≤ 2 ^ (24 * j) = pow_mono (omega arith) in
          let v = p.1 in
          absurd (omega (arith, u, v, g)))
          (λ l. omega arith)
          (cases_lt (4 - k) j)

      go : (b : Bool) → (b ≡ true → get_or iq (4 - k) 0 ≡ 0) → Kept (Left (k + 1)) Needed (pick b (on s) (out (Some k)))
      go true f =
          let z = ap (λ (x : ℕ). x * 2 ^ (24 * (4 - k))) (f refl) in
          let e : 5 - (k + 1) ≡ 4 - k = omega arith in
          let v = p.1 in
          (omega arith, subst (λ (n : ℕ). 2 ^ (24 * j) ≤ value_of iq n) (sym e) (omega (arith, more, z, v)))
      go false f = (k, refl, p.0, few)

  -- then the last of the four that is not 0 is none of the first j
  pub needed_within : 2 ^ (24 * j) ≤ value_of iq 4 → Needed (needed_of iq)
  unfolding needed_of
  needed_within v =
      searched_keeps_at (needed_step iq) none_needed Left Needed 1 5 look (λ s p. absurd (let e = p.1 in omega (arith, e, pow_pos (24 * j)))) (lit≤ tt) tt
      (lit≤ tt, v)

-- ---- chop_of

module _ (iq : List ℕ) (jz : ℕ) (q0 : ℤ) where
  -- before iteration t: not all of the digits from 4 on that are left are 0
  abbrev Going : ℕ → ℤ → Type 0
  Going t q = (q ≡ q0 -ℤ pos (24 * (t + 1))) × (((i : ℕ) → 4 ≤ i → i < jz - t → get_or iq i 0 ≡ 0) → ⊥)

  -- at a digit from 4 on that is not 0
  abbrev pub Chops : Held → Type 0
  Chops h = (i : ℕ) × (4 ≤ i) × (i < jz) × (0 < get_or iq i 0) × (h ≡ record { jz = i; q0 = q0 -ℤ pos (24 * (jz - i)) })

  chop : (t : ℕ) (q : ℤ) → t < jz → Going t q → Kept (Going (t + 1)) Chops (chop_step iq (jz - 1) t q)
  chop t q l g = go (eqb (get_or iq n 0) 0) (eqb-true (get_or iq n 0) 0) (eqb-false (get_or iq n 0) 0)
    where
      n : ℕ
      n = jz - 1 - t

      go : (b : Bool) → (b ≡ true → get_or iq n 0 ≡ 0) → (b ≡ false → get_or iq n 0 ≡ 0 → ⊥)
          → Kept (Going (t + 1)) Chops (pick b (on (q -ℤ pos 24)) (out (record { jz = n; q0 = q })))
      go true z s =
          let e = g.0 in (
            omega (arith, ints, e),
            λ d. g.1 (λ i h k. ⊎_elim (λ p. ap (λ (m : ℕ). get_or iq m 0) p ∙ z refl) (λ p. d i h (omega arith)) (cases_eq i n)),
          )
      go false z s =
          let o = s refl in
          let e : ◌≡◌ {A = ℕ} (24 * (t + 1)) (24 * (jz - n)) = omega arith in
          let f : 4 ≤ n = ⊎_elim (λ p. absurd (g.1 (λ i h k. absurd (omega arith)))) (λ p. p) (cases_lt n 4) in
          (n, f, omega arith, omega arith, ap (λ (q : ℤ). record { jz = n; q0 = q }) (g.0 ∙ ap (λ (m : ℕ). q0 -ℤ pos m) e))

  -- where one of the digits from 4 on is not 0 the search stops, at a digit that is not 0
  pub chop_stops : 4 ≤ jz → 0 < joined_of iq jz → Chops (chop_of iq jz q0)
  unfolding chop_of
  chop_stops h j =
      searched_keeps_at (chop_step iq (jz - 1)) chop_end Going Chops 0 jz chop (λ q g. absurd (g.1 (λ i h l. absurd (omega arith)))) zero-le (q0 -ℤ pos 24)
      (refl, λ d. let z = joined_none iq jz h (λ i p q. d i p (omega arith)) in omega arith)
