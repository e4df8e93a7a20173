-- The laws of a search for the first index, and of a count: what is found is the first, and a part of the range in which the test always fails, or
-- always holds, is passed over at once.
use Rattle.std.specs.Prelude.{Option, Some, None, is_some}
use mathlib.Core.Path.{◌≡◌, refl, sym, ap, ap₂, subst, ◌∙◌}
use mathlib.Core.Bool.{Bool, true, false}
use Prim.Native.Nat.{ℕ, zero, suc, ◌+◌, ◌-◌, ◌≤◌, ◌<◌}
use native.Mathlib.Omega.{arith}
use lib.Dec.{ltb}
use borrow.Author.Tests.{ltb-true, ltb-false}
use Rattle.loops.specs.Loop.{pick, ranged}
use Rattle.loops.specs.Any.{any_in}
use Rattle.loops.specs.First.{first_at, no_index, first_in, counted, count_in}
use Rattle.loops.proofs.Loop.{ranged_end, ranged_step, ranged_keeps_at, searched_again, searched_leave, searched_done}
use Rattle.loops.proofs.Any.{cases, unlike, any_at, any_none}

module _ (test : ℕ → Bool) (a b : ℕ) where
  -- an iteration whose test fails, one whose test holds, and the end
  pub first_again : a < b → test a ≡ false → first_in test (a + 1) b ≡ first_in test a b
  first_again h e = searched_again (first_at test) no_index a b {s = tt} h (rw e) refl

  pub first_leave : a < b → test a ≡ true → Some a ≡ first_in test a b
  first_leave h e = searched_leave (first_at test) no_index a b {s = tt} h (rw e) refl

  pub first_done : b ≤ a → None ≡ first_in test a b
  first_done h = searched_done (first_at test) no_index a b {s = tt} h refl

  -- i is the first index of the range at which the test holds
  pub record First (i : ℕ) : Type 0 where
    pub from : a ≤ i
    pub below : i < b
    pub holds : test i ≡ true
    pub before : (j : ℕ) → a ≤ j → j < i → test j ≡ false

  -- what an answer says
  abbrev pub Finds : Option ℕ → Type 0
  Finds (Some i) = First i
  Finds None = (j : ℕ) → a ≤ j → j < b → test j ≡ false

-- a search answers the first index at which the test holds, and none exactly where it fails all along
pub first_finds : (test : ℕ → Bool) (a b : ℕ) → Finds test a b (first_in test a b)
first_finds test a b = go (b - a) a (omega arith) (omega arith) (λ j h l. absurd (omega arith))
  where
    go : (k i : ℕ) → a ≤ i → i + k ≡ a + (b - a) → ((j : ℕ) → a ≤ j → j < i → test j ≡ false) → Finds test a b (first_in test i b)
    go zero i h e f = subst (Finds test a b) (first_done test i b (omega arith)) (λ j l m. f j l (omega arith))
    go (suc k) i h e f =
        cases (test i)
        (λ t. subst (Finds test a b) (first_leave test i b (omega arith) t) (record { from = h; below = omega arith; holds = t; before = f }))
        (λ t.
        subst (Finds test a b) (first_again test i b (omega arith) t)
        (go k (i + 1) (omega arith) (omega arith)
        (λ j l m. cases (ltb j i) (λ c. f j l (ltb-true j i c)) (λ c. let n = ltb-false j i c in subst (λ (x : ℕ). test x ≡ false) (let q : i ≡ j = omega arith in q) t))))

-- so an index that is the first is the answer
pub first_is : (test : ℕ → Bool) (a b : ℕ) {i : ℕ} → First test a b i → first_in test a b ≡ Some i
first_is test a b {i} f = go (first_in test a b) (first_finds test a b)
  where
    go : (o : Option ℕ) → Finds test a b o → o ≡ Some i
    go (Some k) g =
        cases (ltb k i) (λ c. absurd (unlike g.holds (f.before k g.from (ltb-true k i c))))
        (λ c.
        let n = ltb-false k i c in
        cases (ltb i k) (λ d. absurd (unlike f.holds (g.before i f.from (ltb-true i k d))))
        (λ d. let m = ltb-false i k d in ap Some (let q : k ≡ i = omega arith in q)))
    go None g = absurd (unlike f.holds (g i f.from f.below))

-- and where the test fails all along, none is
pub first_none : (test : ℕ → Bool) (a b : ℕ) → ((j : ℕ) → a ≤ j → j < b → test j ≡ false) → first_in test a b ≡ None
first_none test a b f = go (first_in test a b) (first_finds test a b)
  where
    go : (o : Option ℕ) → Finds test a b o → o ≡ None
    go (Some k) g = absurd (unlike g.holds (f k g.from g.below))
    go None g = refl

-- the indices up to m, at all of which the test fails, are passed over
pub first_past : (test : ℕ → Bool) (a m b : ℕ) → a ≤ m → ((j : ℕ) → a ≤ j → j < m → j < b → test j ≡ false) → first_in test m b ≡ first_in test a b
first_past test a m b h f = go (m - a) a (omega arith) (omega arith)
  where
    go : (k i : ℕ) → a ≤ i → i + k ≡ m → first_in test m b ≡ first_in test i b
    go zero i h e = ap (λ (j : ℕ). first_in test j b) (let q : m ≡ i = omega arith in q)
    go (suc k) i h e =
        go k (i + 1) (omega arith) (omega arith)
        ∙ cases (ltb i b) (λ c. let l = ltb-true i b c in first_again test i b l (f i h (omega arith) l))
        (λ c. let l = ltb-false i b c in sym (first_done test (i + 1) b (omega arith)) ∙ first_done test i b l)

-- two searches whose tests agree
pub first_same : (p q : ℕ → Bool) (a b : ℕ) → ((i : ℕ) → a ≤ i → i < b → p i ≡ q i) → first_in p a b ≡ first_in q a b
first_same p q a b same = sym (go (first_in p a b) (first_finds p a b))
  where
    go : (o : Option ℕ) → Finds p a b o → first_in q a b ≡ o
    go (Some k) g =
        first_is q a b
        (record {
          from = g.from;
          below = g.below;
          holds = sym (same k g.from g.below) ∙ g.holds;
          before = λ j h l. let m = g.below in sym (same j h (omega arith)) ∙ g.before j h l;
        })
    go None g = first_none q a b (λ j h l. sym (same j h l) ∙ g j h l)

-- the search that says whether there is one
pub first_any : (test : ℕ → Bool) (a b : ℕ) → is_some (first_in test a b) ≡ any_in test a b
first_any test a b = go (first_in test a b) (first_finds test a b)
  where
    go : (o : Option ℕ) → Finds test a b o → is_some o ≡ any_in test a b
    go (Some k) g = sym (any_at test a b k g.from g.below g.holds)
    go None g = sym (any_none test a b g)

-- a count goes on over indices at all of which the test fails, and over such at all of which it holds
module _ (test : ℕ → Bool) (a m b : ℕ) (n : ℕ) (h : a ≤ m) where
  pub count_past : ((j : ℕ) → a ≤ j → j < m → j < b → test j ≡ false) → ranged (counted test) m b n ≡ ranged (counted test) a b n
  count_past f = go (m - a) a (omega arith) (omega arith)
    where
      go : (k i : ℕ) → a ≤ i → i + k ≡ m → ranged (counted test) m b n ≡ ranged (counted test) i b n
      go zero i h e = ap (λ (j : ℕ). ranged (counted test) j b n) (let q : m ≡ i = omega arith in q)
      go (suc k) i h e =
          go k (i + 1) (omega arith) (omega arith)
          ∙ cases (ltb i b)
          (λ c.
          let l = ltb-true i b c in
          let t = f i h (omega arith) l in
          ap (ranged (counted test) (i + 1) b) (let q : n ≡ counted test i n = rw t in q) ∙ sym (ranged_step (counted test) i b n l))
          (λ c. let l = ltb-false i b c in ranged_end (counted test) (i + 1) b n (omega arith) ∙ sym (ranged_end (counted test) i b n l))

  pub count_all : m ≤ b → ((j : ℕ) → a ≤ j → j < m → test j ≡ true) → ranged (counted test) m b (n + (m - a)) ≡ ranged (counted test) a b n
  count_all l f = go (m - a) a n (omega arith) (omega arith)
    where
      go : (k i n : ℕ) → a ≤ i → i + k ≡ m → ranged (counted test) m b (n + k) ≡ ranged (counted test) i b n
      go zero i n h e = ap₂ (λ (j c : ℕ). ranged (counted test) j b c) (let q : m ≡ i = omega arith in q) (let q : n + 0 ≡ n = omega arith in q)
      go (suc k) i n h e =
          ap (ranged (counted test) m b) (let q : n + suc k ≡ n + 1 + k = omega arith in q)
          ∙ go k (i + 1) (n + 1) (omega arith) (omega arith)
          ∙ ap (ranged (counted test) (i + 1) b) (let t = f i h (omega arith) in let q : n + 1 ≡ counted test i n = rw t in q)
          ∙ sym (ranged_step (counted test) i b n (omega arith))

-- a count is 0 exactly where the test fails all along, and at most the number of indices
pub count_none : (test : ℕ → Bool) (a b : ℕ) → a ≤ b → ((j : ℕ) → a ≤ j → j < b → test j ≡ false) → count_in test a b ≡ 0
count_none test a b h f = sym (count_past test a b b 0 h (λ j s t u. f j s u)) ∙ ranged_end (counted test) b b 0 (omega arith)

pub none_counted : (test : ℕ → Bool) (a b : ℕ) → a ≤ b → count_in test a b ≡ 0 → (j : ℕ) → a ≤ j → j < b → test j ≡ false
none_counted test a b h =
    ranged_keeps_at (counted test) (λ i n. n ≡ 0 → (j : ℕ) → a ≤ j → j < i → test j ≡ false) a b step h 0 (λ e j l m. absurd (omega arith))
  where
    step : (i n : ℕ) → i < b → (n ≡ 0 → (j : ℕ) → a ≤ j → j < i → test j ≡ false) → counted test i n ≡ 0 → (j : ℕ) → a ≤ j → j < i + 1 → test j ≡ false
    step i n l f e j s t =
        cases (test i) (λ c. let q : n + 1 ≡ 0 = rw c at e in absurd (omega arith))
        (λ c.
        cases (ltb j i) (λ d. f (rw c at e) j s (ltb-true j i d))
        (λ d. let m = ltb-false j i d in subst (λ (x : ℕ). test x ≡ false) (let q : i ≡ j = omega arith in q) c))

pub count_most : (test : ℕ → Bool) (a b : ℕ) → a ≤ b → count_in test a b ≤ b - a
count_most test a b h =
    (ranged_keeps_at (counted test) (λ i n. (n ≤ i - a) × (a ≤ i)) a b (λ i n l p. step i n p.0 p.1) h 0 (omega arith, omega arith)).0
  where
    step : (i n : ℕ) → n ≤ i - a → a ≤ i → (counted test i n ≤ i + 1 - a) × (a ≤ i + 1)
    step i n p l = cases (test i) (λ c. rw c (omega arith, omega arith)) (λ c. rw c (omega arith, omega arith))

-- two counts whose tests agree
pub count_same : (p q : ℕ → Bool) (a b : ℕ) → ((i : ℕ) → a ≤ i → i < b → p i ≡ q i) → count_in p a b ≡ count_in q a b
count_same p q a b same = go (b - a) a 0 (omega arith) (omega arith)
  where
    go : (k i n : ℕ) → a ≤ i → i + k ≡ a + (b - a) → ranged (counted p) i b n ≡ ranged (counted q) i b n
    go zero i n h e = ranged_end (counted p) i b n (omega arith) ∙ sym (ranged_end (counted q) i b n (omega arith))
    go (suc k) i n h e =
        ranged_step (counted p) i b n (omega arith)
        ∙ ap (λ (t : Bool). ranged (counted p) (i + 1) b (pick t (n + 1) n)) (same i h (omega arith))
        ∙ go k (i + 1) (counted q i n) (omega arith) (omega arith)
        ∙ sym (ranged_step (counted q) i b n (omega arith))
