-- What the end of the kernel answers is finite, and at most 2 ^ 67 in magnitude: a crude bound, from the sizes of the digits and of q0 alone.
use mathlib.Core.Path.{◌≡◌, refl, ◌∙◌}
use mathlib.Core.Bool.{Bool, true, false, not}
use mathlib.Core.List.{List}
use Prim.Native.Nat.{ℕ, zero, suc, ◌+◌, ◌-◌, ◌*◌, ◌/◌, ◌%◌, ◌^◌, ◌≤◌, ◌<◌, zero-le}
use native.Mathlib.Nat.{le_refl, le_trans, le_of_lt, lt_of_le_of_lt}
use native.Mathlib.Omega.{arith}
use lib.Dec.{T, ltb, eqb, ltb→lt, nltb→le, lit<, lit≤}
use lib.IntN.{ℤ, pos, negsuc, ◌-ℤ◌, neg_ℤ}
use lib.ListN.{get_or, set, length, length-set, replicate, length-replicate}
use lib.Signed.{◌≤ℤ◌}
use lib.Ieee.{Float, nan, of_bits}
use Rattle.std.proofs.lemmas.Int.{ints}
use Rattle.loops.specs.Loop.{pick}
use Rattle.loops.proofs.Choice.{pick_is}
use Rattle.loops.proofs.Loop.{Kept, ranged_keeps_at, searched_keeps}
use Rattle.number.specs.Operators.{◌⊖◌, ◌⊗◌, ◌≤?◌, ◌==?◌}
use Rattle.number.specs.Helpers.{positive_zero, one}
use Rattle.number.proofs.Bounded.{Under, Most, more_most, one_most, most_under, add_most, sub_most, times, neg_under, counted, constant, bits_under}
use Rattle.remainder.specs.declared.digits.Pass.{Pass}
use Rattle.remainder.specs.declared.sums.Held.{Held}
use Rattle.remainder.specs.Machine.{double, int, power, scalbn}
use Rattle.remainder.specs.Tables.{jp, pio2}
use Rattle.remainder.specs.Kernel.{two24, twon24, Chopped, chopped, chop_step, chop_end, chop_of, break_of, chopped_of, Valued, valued, value_step, values_of}
use Rattle.remainder.specs.Kernel.{part_added, part_of, part_set, parts_of, add_down, down_of, add_up, up_of, by_half, compressed_of, room, finish_of}
use Rattle.remainder.proofs.Entries.{entry_set, entries_set}
use Rattle.remainder.proofs.Truncation.{cut_most}
use Rattle.remainder.proofs.Weighing.{Digits}

-- ---- the digits, their count and q0

int_most : (x : Float) → int x ≤ 2 ^ 31
int_most x = le_trans (cut_most 31 x) (lit≤ tt)

-- what is left when terms are chopped off, or z is broken in digits: jz is at most n, q0 at most 26, the digits up to jz at most 2 ^ 31
record Ended (n : ℕ) (c : Chopped) : Type 0 where
  pub count : c.held.jz ≤ n
  pub weight : c.held.q0 ≤ℤ pos 26
  pub digits_most : (j : ℕ) → j ≤ c.held.jz → get_or c.digits j 0 ≤ 2 ^ 31

module _ (iq : List ℕ) (jz : ℕ) (q0 : ℤ) (w : q0 ≤ℤ pos 2) (d : Digits iq jz) where
  digit_most : (j : ℕ) → j < jz → get_or iq j 0 ≤ 2 ^ 31
  digit_most j l = le_trans (le_of_lt (d j l)) (lit≤ tt)

  -- terms chopped off
  abbrev Fewer : Held → Type 0
  Fewer h = (h.jz < jz) × (h.q0 ≤ℤ pos 2)

  chop_fewer : 0 < jz → Fewer (chop_of iq jz q0)
  unfolding chop_of
  chop_fewer some =
      searched_keeps (chop_step iq (jz - 1)) chop_end (λ q. q ≤ℤ pos 2) Fewer step (λ s h. (some, h)) 0 jz (q0 -ℤ pos 24) (omega (arith, ints, w))
    where
      step : (t : ℕ) (s : ℤ) → s ≤ℤ pos 2 → Kept (λ q. q ≤ℤ pos 2) Fewer (chop_step iq (jz - 1) t s)
      step t s h = pick_is (Kept (λ q. q ≤ℤ pos 2) Fewer) (eqb (get_or iq (jz - 1 - t) 0) 0) (omega (arith, ints, h)) (omega arith, h)

  chop_ended : 0 < jz → Ended (jz + 1) (chopped iq (chop_of iq jz q0))
  chop_ended some =
      let f = chop_fewer some in
      let g = f.1 in
      record { count = omega (arith, f.0); weight = omega (arith, ints, g); digits_most = λ j l. digit_most j (lt_of_le_of_lt l f.0) }

  -- z broken in digits
  module _ (r : jz + 1 < length iq) where
    one_digit : (a j : ℕ) → a ≤ 2 ^ 31 → j ≤ jz → get_or (set iq jz a) j 0 ≤ 2 ^ 31
    one_digit a j h l = entry_set iq jz a 0 (omega arith) (λ (n : ℕ). n ≤ 2 ^ 31) j h (λ e. digit_most j (omega arith))

    two_digits : (a b j : ℕ) → a ≤ 2 ^ 31 → b ≤ 2 ^ 31 → j ≤ jz + 1 → get_or (set (set iq jz a) (jz + 1) b) j 0 ≤ 2 ^ 31
    two_digits a b j g h l =
        entry_set (set iq jz a) (jz + 1) b 0 (rw (length-set iq jz a) r) (λ (n : ℕ). n ≤ 2 ^ 31) j h (λ e. one_digit a j g (omega arith))

    break_ended : (z : Float) → Ended (jz + 1) (break_of iq z jz q0)
    unfolding break_of
    break_ended z =
        let fw = double (int (twon24 ⊗ z)) in
        pick_is (Ended (jz + 1)) (two24 ≤? z)
        (record {
          count = le_refl (jz + 1);
          weight = omega (arith, ints, w);
          digits_most = λ j l. two_digits (int (z ⊖ two24 ⊗ fw)) (int fw) j (int_most (z ⊖ two24 ⊗ fw)) (int_most fw) l;
        })
        (record { count = omega arith; weight = omega (arith, ints, w); digits_most = λ j l. one_digit (int z) j (int_most z) l })

    ended : (z : Float) → 0 < jz → Ended (jz + 1) (chopped_of iq z jz q0)
    unfolding chopped_of
    ended z some = pick_is (Ended (jz + 1)) (z ==? positive_zero) (chop_ended some) (break_ended (scalbn z (neg_ℤ q0)))

-- ---- the digits as numbers

-- 2 ^ z, for a z of at most 26
power_under : (z : ℤ) → z ≤ℤ pos 26 → Under 27 (power z)
power_under (pos a) h = bits_under ((1023 + a) * 2 ^ 52) 26 (low a (omega (arith, ints, h))) (lit≤ tt)
  where
    low : (a : ℕ) → a ≤ 26 → (1023 + a) * 2 ^ 52 % 2 ^ 63 / 2 ^ 52 ≤ 1023 + 26
    low a h = omega arith
power_under (negsuc b) h = bits_under ((1022 - b) * 2 ^ 52) 26 (low b) (lit≤ tt)
  where
    low : (b : ℕ) → (1022 - b) * 2 ^ 52 % 2 ^ 63 / 2 ^ 52 ≤ 1023 + 26
    low b = omega arith

one_under : Under 0 one
unfolding of_bits
one_under = constant 0x3ff0000000000000 0 tt tt

twon24_under : Under 0 twon24
unfolding of_bits
twon24_under = constant 0x3e70000000000000 0 tt tt

module _ (iq : List ℕ) (h : Held) (q : List Float) (w : h.q0 ≤ℤ pos 26) (d : (j : ℕ) → j ≤ h.jz → get_or iq j 0 ≤ 2 ^ 31) (r : h.jz < length q) where
  -- before iteration t the last t of them are written
  record Written (t : ℕ) (s : Valued) : Type 0 where
    pub long : h.jz < length s.values
    pub weight : Under 27 s.fw
    pub values_under : (j : ℕ) → j ≤ h.jz → h.jz < j + t → Under 58 (get_or s.values j nan)

  written : (t : ℕ) (s : Valued) → t < h.jz + 1 → Written t s → Written (t + 1) (value_step iq h.jz t s)
  written t s l v =
      let i = h.jz - t in
      let x = s.fw ⊗ double (get_or iq i 0) in
      let u : Under 58 x = times tt v.weight (counted (get_or iq i 0) 31 (lit≤ tt) (d i (omega arith))) in
      record {
        long = rw (length-set s.values i x) v.long;
        weight = times tt v.weight twon24_under;
        values_under = λ j k g. entry_set s.values i x nan (lt_of_le_of_lt (omega arith) v.long) (Under 58) j u (λ e. v.values_under j k (omega arith));
      }

  values_under : (j : ℕ) → j ≤ h.jz → Under 58 (get_or (values_of iq h q) j nan)
  unfolding values_of
  values_under j l =
      let s = valued q (scalbn one h.q0) in
      let first : Written 0 s = record { long = r; weight = times tt one_under (power_under h.q0 w); values_under = λ j k g. absurd (omega arith) } in
      (ranged_keeps_at (value_step iq h.jz) Written 0 (h.jz + 1) written zero-le s first).values_under j l (omega arith)

-- ---- the products with pi/2
pio2_under : (k : ℕ) → k ≤ jp → Under 1 (get_or pio2 k nan)
unfolding of_bits
pio2_under zero h = constant 0x3ff921fb40000000 1 tt tt
pio2_under (suc zero) h = constant 0x3e74442d00000000 1 tt tt
pio2_under (suc (suc zero)) h = constant 0x3cf8469880000000 1 tt tt
pio2_under (suc (suc (suc zero))) h = constant 0x3b78cc5160000000 1 tt tt
pio2_under (suc (suc (suc (suc zero)))) h = constant 0x39f01b8380000000 1 tt tt
pio2_under (suc (suc (suc (suc (suc k))))) h = absurd (omega arith)

zero_most : (k : ℕ) → Most 0 k positive_zero
unfolding of_bits
zero_most k = record { sign = false; units_of = 0; is = (refl, refl); most = zero-le }

module _ (q : List Float) (jz : ℕ) (r : jz < room) (v : (j : ℕ) → j ≤ jz → Under 58 (get_or q j nan)) where
  part_most : (t : ℕ) → t ≤ jz → Most 5 59 (part_of q jz t)
  unfolding part_of
  part_most t l =
      let n = pick (ltb t jp) t jp in
      let b = fewest t in
      more_most (omega (arith, b.1))
      (ranged_keeps_at (part_added q (jz - t)) (λ (k : ℕ) (x : Float). Most k 59 x) 0 (n + 1)
      (λ k x g m. add_most 20 (omega (arith, b.1)) tt tt m
      (one_most (times tt (pio2_under k (omega (arith, b.1))) (v (jz - t + k) (omega (arith, b.0))))))
      zero-le positive_zero (zero_most 59))
    where
      fewest : (t : ℕ) → (pick (ltb t jp) t jp ≤ t) × (pick (ltb t jp) t jp ≤ jp)
      fewest t = go (ltb t jp) (ltb→lt t jp) (nltb→le t jp)
        where
          go : (b : Bool) → (T b → t < jp) → (T (not b) → jp ≤ t) → (pick b t jp ≤ t) × (pick b t jp ≤ jp)
          go true f g = (le_refl t, le_of_lt (f tt))
          go false f g = (g tt, le_refl jp)

  -- before iteration t the first t of them are written
  record Parted (t : ℕ) (fq : List Float) : Type 0 where
    pub long : length fq ≡ room
    pub parts_most : (j : ℕ) → j < t → Most 5 59 (get_or fq j nan)

  parted : (t : ℕ) (fq : List Float) → t < jz + 1 → Parted t fq → Parted (t + 1) (part_set q jz t fq)
  parted t fq l p =
      let x = part_of q jz t in
      record {
        long = length-set fq t x ∙ p.long;
        parts_most = entries_set fq t x nan (rw p.long (omega arith)) (λ j. Most 5 59) p.parts_most (part_most t (omega arith));
      }

  parts_most : (j : ℕ) → j ≤ jz → Most 5 59 (get_or (parts_of q jz (replicate room positive_zero)) j nan)
  unfolding parts_of
  parts_most j l =
      (ranged_keeps_at (part_set q jz) Parted 0 (jz + 1) parted zero-le (replicate room positive_zero)
      (record { long = length-replicate room positive_zero; parts_most = λ j k. absurd (omega arith) })).parts_most j (omega arith)

-- ---- their sums
module _ (fq : List Float) (jz : ℕ) (r : jz < room) (v : (j : ℕ) → j ≤ jz → Most 5 59 (get_or fq j nan)) where
  down_most : Most 105 59 (down_of fq jz)
  unfolding down_of
  down_most =
      more_most (omega arith)
      (ranged_keeps_at (add_down fq jz) (λ (t : ℕ) (x : Float). Most (5 * t) 59 x) 0 (jz + 1)
      (λ t x l m. more_most (omega arith) (add_most 20 (omega arith) tt tt m (v (jz - t) (omega arith)))) zero-le positive_zero (zero_most 59))

  up_most : (x : Float) → Most 105 59 x → Most 210 59 (up_of fq jz x)
  unfolding up_of
  up_most x m =
      more_most (omega arith)
      (ranged_keeps_at (add_up fq) (λ (i : ℕ) (x : Float). Most (105 + 5 * i) 59 x) 1 (jz + 1)
      (λ i x l m. more_most (omega arith) (add_most 20 (omega arith) tt tt m (v i (omega arith)))) (omega arith) (get_or fq 0 nan ⊖ x)
      (more_most (lit≤ tt) (sub_most 20 (lit< tt) tt tt (v 0 zero-le) m)))

-- what the kernel leaves: an angle and a tail of at most 2 ^ 67
module _ (iq : List ℕ) (p : Pass) (q : List Float) (jz : ℕ) (q0 : ℤ) (d : Digits iq jz) (long : 20 < length iq) (r : 20 < length q) (some : 0 < jz)
    (few : jz ≤ 19) (w : q0 ≤ℤ pos 2) where
  by_half_under : {x : Float} → Most 210 59 x → Under 67 (by_half p.ih x)
  by_half_under m = let u = most_under 8 67 (lit≤ tt) refl m in pick_is (Under 67) (eqb p.ih 0) u (neg_under u)

  pub finish_under : Under 67 (finish_of iq p q jz q0).y0 × Under 67 (finish_of iq p q jz q0).y1
  unfolding finish_of compressed_of
  finish_under =
      let c = chopped_of iq p.z jz q0 in
      let e = ended iq jz q0 w d (omega arith) p.z some in
      let v = values_under c.digits c.held q e.weight e.digits_most (omega (arith, e.count)) in
      let n : c.held.jz < room = omega (arith, e.count) in
      let fq = parts_of (values_of c.digits c.held q) c.held.jz (replicate room positive_zero) in
      let m = parts_most (values_of c.digits c.held q) c.held.jz n v in
      let y = down_most fq c.held.jz n m in
      (by_half_under (more_most (lit≤ tt) y), by_half_under (up_most fq c.held.jz n m (down_of fq c.held.jz) y))
