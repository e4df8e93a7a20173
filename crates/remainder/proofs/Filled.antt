-- What f and q hold, as whole numbers: the digits of 2/pi that count for an angle, and their sums of products with its pieces.
use mathlib.Core.Logic.{◌⊎◌, inl, inr}
use mathlib.Core.Path.{◌≡◌, refl, sym, ap, ◌∙◌, subst}
use mathlib.Core.Bool.{Bool, true, false}
use mathlib.Core.List.{List}
use Prim.Native.Nat.{ℕ, zero, suc, ◌+◌, ◌-◌, ◌*◌, ◌^◌, ◌≤◌, ◌<◌, zero-le}
use native.Mathlib.Nat.{mul-le-mul}
use native.Mathlib.Numerals.{add-one}
use native.Mathlib.Omega.{arith}
use borrow.Author.Tests.{lt-ltb, le-ltb}
use lib.Dec.{ltb, lit<}
use lib.ListN.{length, get_or, set, length-set, replicate, length-replicate}
use lib.Ieee.{Float, nan}
use Rattle.std.proofs.lemmas.Bool.{cases_lt}
use Rattle.loops.specs.Loop.{pick}
use Rattle.loops.proofs.Loop.{ranged_keeps_at}
use Rattle.number.specs.Operators.{◌⊗◌}
use Rattle.number.specs.Helpers.{positive_zero}
use Rattle.remainder.specs.Machine.{double}
use Rattle.remainder.specs.Tables.{jk, two_over_pi}
use Rattle.remainder.specs.Kernel.{digit_of, digit_set, first_digits, product_added, term_of, term_set, first_terms, Terms, term_more, more_of, room}
use Rattle.remainder.proofs.Angle.{Pieces, Last}
use Rattle.remainder.proofs.Distance.{digit_at, digit_below, term_at}
use Rattle.remainder.proofs.Entries.{entries_set}
use Rattle.remainder.proofs.Exactly.{Of, double_of, plus_of, times_of, zero_of}

-- the first n entries are whole numbers
abbrev Hold : (ℕ → ℕ) → ℕ → List Float → Type 0
Hold F n l = (i : ℕ) → i < n → Of (get_or l i nan) (F i) 0

-- ---- the digits

-- what f[n] holds: the digit jv - jx + n, or 0 before the first
abbrev digit_in : (jv jx n : ℕ) → ℕ
digit_in jv jx n = digit_at (jv + n) jx

table_digit : (i : ℕ) → Of (double (get_or two_over_pi i 0)) (get_or two_over_pi i 0) 0
table_digit i = double_of (get_or two_over_pi i 0) (let h = digit_below i in omega (arith, h))

digit_is : (jv jx n : ℕ) → Of (digit_of jv jx n) (digit_in jv jx n) 0
unfolding digit_of
digit_is jv jx n = go (ltb (jv + n) jx)
  where
    go : (b : Bool) → Of (pick b positive_zero (double (get_or two_over_pi (jv + n - jx) 0))) (pick b 0 (get_or two_over_pi (jv + n - jx) 0)) 0
    go true = zero_of
    go false = table_digit (jv + n - jx)

-- from jx on it is the digit jv - jx + n
later_digit : (jv jx i : ℕ) → digit_in jv jx (jx + i) ≡ get_or two_over_pi (jv + i) 0
later_digit jv jx i = let e : jv + (jx + i) - jx ≡ jv + i = omega arith in rw (le-ltb (jv + (jx + i)) jx (omega arith), e)

-- the one that the piece j is multiplied with
same_digit : (jv jx i j : ℕ) → j ≤ jx → digit_in jv jx (jx + i - j) ≡ digit_at (jv + i) j
same_digit jv jx i j h =
    let e : jv + (jx + i - j) - jx ≡ jv + i - j = omega arith in
    ap (λ (k : ℕ). pick (ltb (jv + (jx + i - j)) jx) 0 (get_or two_over_pi k 0)) e
    ∙ ap (λ (b : Bool). pick b 0 (get_or two_over_pi (jv + i - j) 0)) (both (cases_lt (jv + i) j))
  where
    both : (jv + i < j) ⊎ (j ≤ jv + i) → ltb (jv + (jx + i - j)) jx ≡ ltb (jv + i) j
    both (inl k) = rw (lt-ltb (jv + (jx + i - j)) jx (omega arith), lt-ltb (jv + i) j k)
    both (inr k) = rw (le-ltb (jv + (jx + i - j)) jx (omega arith), le-ltb (jv + i) j k)

digit_at_below : (n j : ℕ) → digit_at n j < 2 ^ 24
digit_at_below n j = go (ltb n j)
  where
    go : (b : Bool) → pick b 0 (get_or two_over_pi (n - j) 0) < 2 ^ 24
    go true = omega arith
    go false = digit_below (n - j)

-- ---- the terms

module _ {m : ℕ} {tx : List Float} (p : Pieces m tx) (D : ℕ → ℕ) (d : (j : ℕ) → D j < 2 ^ 24) where
  abbrev piece : ℕ → ℕ
  piece zero = p.X0
  piece (suc zero) = p.X1
  piece (suc (suc j)) = p.X2

  -- the products of the first pieces, with a digit each
  abbrev products : ℕ → ℕ
  products zero = 0
  products (suc j) = products j + piece j * D j

  piece_is : (j : ℕ) → j ≤ 2 → Of (get_or tx j nan) (piece j) 0 × (piece j < 2 ^ 24)
  piece_is zero h = (p.is0, p.parts.under0)
  piece_is (suc zero) h = (p.is1, p.parts.under1)
  piece_is (suc (suc zero)) h = (p.is2, p.parts.under2)
  piece_is (suc (suc (suc j))) h = absurd (omega arith)

  products_below : (j : ℕ) → j ≤ 3 → products j ≤ j * 2 ^ 48
  products_below zero h = zero-le
  products_below (suc j) h =
      let x : piece j ≤ 2 ^ 24 = let l = (piece_is j (omega arith)).1 in omega (arith, l) in
      let y : D j ≤ 2 ^ 24 = let l = d j in omega (arith, l) in
      omega (arith, mul-le-mul x y, products_below j (omega arith))

  -- the pieces after jx are 0
  all_count : (jx : ℕ) → Last p.X1 p.X2 jx → products (jx + 1) ≡ products 3
  all_count zero l = omega (arith, ap (λ (n : ℕ). n * D 1) (l.none1 (lit< tt)), ap (λ (n : ℕ). n * D 2) (l.none2 (lit< tt)))
  all_count (suc zero) l = omega (arith, ap (λ (n : ℕ). n * D 2) (l.none2 (lit< tt)))
  all_count (suc (suc zero)) l = refl
  all_count (suc (suc (suc n))) l = absurd (let k = l.few in omega (arith, k))

  summed : (f : List Float) (jx i : ℕ) → Last p.X1 p.X2 jx → ((j : ℕ) → j ≤ jx → Of (get_or f (jx + i - j) nan) (D j) 0)
      → Of (term_of tx f jx i) (products 3) 0
  unfolding term_of
  summed f jx i l h =
      subst (λ (n : ℕ). Of (term_of tx f jx i) n 0) (all_count jx l)
      (ranged_keeps_at (product_added tx f jx i) (λ (j : ℕ) (y : Float). Of y (products j) 0) 0 (jx + 1) step zero-le positive_zero zero_of)
    where
      step : (j : ℕ) (y : Float) → j < jx + 1 → Of y (products j) 0 → Of (product_added tx f jx i j y) (products (j + 1)) 0
      step j y k o =
          let x = get_or tx j nan in
          let v = get_or f (jx + i - j) nan in
          let few : j ≤ 2 = let e = l.few in omega (arith, e) in
          let b : products j + piece j * D j ≤ 3 * 2 ^ 48 = let c = products_below (suc j) (omega arith) in omega (arith, c) in
          subst (λ (n : ℕ). Of (product_added tx f jx i j y) (products n) 0) (sym (add-one j))
          (plus_of y (x ⊗ v) (products j) (piece j * D j) 0 o
          (times_of x v (piece j) (D j) 0 0 (piece_is j few).0 (h j (omega arith)) (omega (arith, b)) zero-le) (omega (arith, b)))

  sum_below : p.X0 * D 0 + p.X1 * D 1 + p.X2 * D 2 < 2 ^ 50
  sum_below = let b = products_below 3 (omega arith) in omega (arith, b)

module _ {m : ℕ} {tx : List Float} (p : Pieces m tx) (jv jx : ℕ) (last : Last p.X1 p.X2 jx) where
  abbrev pub sums : ℕ → ℕ
  sums i = term_at jv p.X0 p.X1 p.X2 i

  pub sums_below : (i : ℕ) → sums i < 2 ^ 50
  sums_below i = sum_below p (digit_at (jv + i)) (digit_at_below (jv + i))

  term_is : (f : List Float) (i : ℕ) → Hold (digit_in jv jx) (jx + i + 1) f → Of (term_of tx f jx i) (sums i) 0
  term_is f i h =
      let e : products p (digit_at (jv + i)) (digit_at_below (jv + i)) 3 ≡ sums i = omega arith in
      subst (λ (n : ℕ). Of (term_of tx f jx i) n 0) e
      (summed p (digit_at (jv + i)) (digit_at_below (jv + i)) f jx i last
      (λ j k. subst (λ (n : ℕ). Of (get_or f (jx + i - j) nan) n 0) (same_digit jv jx i j k) (h (jx + i - j) (omega arith))))

  -- ---- the lists

  -- f and q are filled for the terms before n
  pub record Filled (n : ℕ) (f q : List Float) : Type 0 where
    pub long_f : length f ≡ 20
    pub long_q : length q ≡ 21
    pub in_f : Hold (digit_in jv jx) (jx + n) f
    pub in_q : Hold sums n q

  -- f for the first of them
  record Begun (i : ℕ) (f : List Float) : Type 0 where
    pub long : length f ≡ 20
    pub in_f : Hold (digit_in jv jx) i f

  begun : Begun (jx + jk + 1) (first_digits jv jx (replicate 20 positive_zero))
  begun =
      ranged_keeps_at (digit_set jv jx) Begun 0 (jx + jk + 1)
      (λ i f k b. record {
        long = length-set f i (digit_of jv jx i) ∙ b.long;
        in_f = entries_set f i (digit_of jv jx i) nan (let e = b.long in let g = last.few in omega (arith, e, g))
            (λ j y. Of y (digit_in jv jx j) 0) b.in_f (digit_is jv jx i);
      })
      zero-le (replicate 20 positive_zero) (record { long = length-replicate 20 positive_zero; in_f = λ i h. absurd (omega arith) })

  -- and q
  record Summed (i : ℕ) (q : List Float) : Type 0 where
    pub long : length q ≡ 21
    pub in_q : Hold sums i q

  pub first_filled : let f = first_digits jv jx (replicate 20 positive_zero) in Filled 5 f (first_terms tx f jx (replicate room positive_zero))
  first_filled =
      let f = first_digits jv jx (replicate 20 positive_zero) in
      let b = begun in
      let s =
      ranged_keeps_at (term_set tx f jx) Summed 0 (jk + 1)
      (λ i q k s. record {
        long = length-set q i (term_of tx f jx i) ∙ s.long;
        in_q = entries_set q i (term_of tx f jx i) nan (let e = s.long in omega (arith, e)) (λ j y. Of y (sums j) 0) s.in_q
            (term_is f i (λ n l. b.in_f n (omega arith)));
      })
      zero-le (replicate room positive_zero) (record { long = length-replicate room positive_zero; in_q = λ i h. absurd (omega arith) }) in
      record { long_f = b.long; long_q = s.long; in_f = λ n l. b.in_f n (omega arith); in_q = s.in_q }

  -- more of both, as far as f goes
  pub more_filled : (k : ℕ) (s : Terms) → jx + s.jz + k < 20 → Filled (s.jz + 1) s.f s.q
      → let t = more_of tx jx jv k s in Filled (s.jz + k + 1) t.f t.q
  unfolding more_of
  more_filled k s r h =
      ranged_keeps_at (term_more tx jx jv) (λ (n : ℕ) (t : Terms). Filled n t.f t.q) (s.jz + 1) (s.jz + k + 1) step (omega arith) s h
    where
      step : (i : ℕ) (t : Terms) → i < s.jz + k + 1 → Filled i t.f t.q → Filled (i + 1) (term_more tx jx jv i t).f (term_more tx jx jv i t).q
      step i t u b =
          let d = double (get_or two_over_pi (jv + i) 0) in
          let f = set t.f (jx + i) d in
          let e = b.long_f in
          let g = b.long_q in
          let o : Of d (digit_in jv jx (jx + i)) 0 = subst (λ (n : ℕ). Of d n 0) (sym (later_digit jv jx i)) (table_digit (jv + i)) in
          let c : Hold (digit_in jv jx) (jx + i + 1) f = entries_set t.f (jx + i) d nan (omega (arith, e)) (λ j y. Of y (digit_in jv jx j) 0) b.in_f o in
          record {
            long_f = length-set t.f (jx + i) d ∙ e;
            long_q = length-set t.q i (term_of tx f jx i) ∙ g;
            in_f = λ n v. c n (omega arith);
            in_q = entries_set t.q i (term_of tx f jx i) nan (omega (arith, g)) (λ j y. Of y (sums j) 0) b.in_q (term_is f i c);
          }
