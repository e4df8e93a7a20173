-- The laws of loops: what a loop's proof cites after an iteration and after the last one.
use mathlib.Core.Path.{◌≡◌, refl, ap, sym, subst, ◌∙◌}
use Prim.Native.Nat.{ℕ, zero, suc, ◌+◌, ◌-◌, ◌≤◌, ◌<◌}
use native.Mathlib.Omega.{arith}
use Rattle.loops.specs.Loop.{iterated, ranged, Flow, on, out, exits, searched}

pub ranged_end : {S : Type 0} (f : ℕ → S → S) (a b : ℕ) (s : S) → b ≤ a → ranged f a b s ≡ s
unfolding iterated
ranged_end f a b s h =
    let e : b - a ≡ 0 = omega arith in
    ap (λ (k : ℕ). iterated f k a s) e

pub ranged_step : {S : Type 0} (f : ℕ → S → S) (a b : ℕ) (s : S) → a < b → ranged f a b s ≡ ranged f (a + 1) b (f a s)
unfolding iterated
ranged_step f a b s h =
    let e : b - a ≡ suc (b - (a + 1)) = omega arith in
    ap (λ (k : ℕ). iterated f k a s) e

-- a counting loop: the invariant after an iteration, and what it says after the loop
pub ranged_again : {S : Type 0} (f : ℕ → S → S) (a b : ℕ) {s t u : S} → a < b → t ≡ f a s → ranged f a b s ≡ u → ranged f (a + 1) b t ≡ u
ranged_again f a b {s} h e i = ap (ranged f (a + 1) b) e ∙ sym (ranged_step f a b s h) ∙ i

pub ranged_done : {S : Type 0} (f : ℕ → S → S) (a b : ℕ) {s u : S} → b ≤ a → ranged f a b s ≡ u → s ≡ u
ranged_done f a b {s} h i = sym (ranged_end f a b s h) ∙ i

pub searched_out : {S R : Type 0} (f : ℕ → S → Flow S R) (end : S → R) (a b : ℕ) (r : R) → searched f end a b (out r) ≡ r
unfolding exits
searched_out f end a b r = go (b - a)
  where
    go : (k : ℕ) → exits f end k a (out r) ≡ r
    go zero = refl
    go (suc k) = refl

pub searched_end : {S R : Type 0} (f : ℕ → S → Flow S R) (end : S → R) (a b : ℕ) (s : S) → b ≤ a → searched f end a b (on s) ≡ end s
unfolding exits
searched_end f end a b s h =
    let e : b - a ≡ 0 = omega arith in
    ap (λ (k : ℕ). exits f end k a (on s)) e

pub searched_step : {S R : Type 0} (f : ℕ → S → Flow S R) (end : S → R) (a b : ℕ) (s : S) → a < b
    → searched f end a b (on s) ≡ searched f end (a + 1) b (f a s)
unfolding exits
searched_step f end a b s h =
    let e : b - a ≡ suc (b - (a + 1)) = omega arith in
    ap (λ (k : ℕ). exits f end k a (on s)) e

-- a loop with an early way out: the invariant after an iteration, the answer of an iteration, and what holds after the last
pub searched_again : {S R : Type 0} (f : ℕ → S → Flow S R) (end : S → R) (a b : ℕ) {s t : S} {u : R} → a < b → f a s ≡ on t
    → searched f end a b (on s) ≡ u → searched f end (a + 1) b (on t) ≡ u
searched_again f end a b {s} h e i = ap (searched f end (a + 1) b) (sym e) ∙ sym (searched_step f end a b s h) ∙ i

pub searched_leave : {S R : Type 0} (f : ℕ → S → Flow S R) (end : S → R) (a b : ℕ) {s : S} {r u : R} → a < b → f a s ≡ out r
    → searched f end a b (on s) ≡ u → r ≡ u
searched_leave f end a b {s} {r} h e i =
    sym (searched_out f end (a + 1) b r) ∙ ap (searched f end (a + 1) b) (sym e) ∙ sym (searched_step f end a b s h) ∙ i

pub searched_done : {S R : Type 0} (f : ℕ → S → Flow S R) (end : S → R) (a b : ℕ) {s : S} {u : R} → b ≤ a
    → searched f end a b (on s) ≡ u → end s ≡ u
searched_done f end a b {s} h i = sym (searched_end f end a b s h) ∙ i

-- What every iteration keeps holds at the end. Of a counting loop: P i of the state before iteration i.
pub ranged_keeps_at : {S : Type 0} (f : ℕ → S → S) (P : ℕ → S → Type 0) (a b : ℕ) → ((i : ℕ) (s : S) → i < b → P i s → P (i + 1) (f i s)) → a ≤ b
    → (s : S) → P a s → P b (ranged f a b s)
unfolding iterated
ranged_keeps_at {S} f P a b step h s p = go (b - a) a (omega arith) s p
  where
    go : (k i : ℕ) → i + k ≡ b → (s : S) → P i s → P b (iterated f k i s)
    go zero i e s p = subst (λ (j : ℕ). P j s) (let g : i ≡ b = omega arith in g) p
    go (suc k) i e s p = go k (i + 1) (omega arith) (f i s) (step i s (omega arith) p)

-- Of a loop with an early way out: P of each state, Q of each answer.
abbrev pub Kept : {S R : Type 0} → (S → Type 0) → (R → Type 0) → Flow S R → Type 0
Kept P Q (on s) = P s
Kept P Q (out r) = Q r

pub searched_keeps : {S R : Type 0} (f : ℕ → S → Flow S R) (end : S → R) (P : S → Type 0) (Q : R → Type 0)
    → ((i : ℕ) (s : S) → P s → Kept P Q (f i s)) → ((s : S) → P s → Q (end s)) → (a b : ℕ) (s : S) → P s → Q (searched f end a b (on s))
unfolding exits
searched_keeps {S} {R} f end P Q step last a b s p = go (b - a) a (on s) p
  where
    go : (k i : ℕ) (w : Flow S R) → Kept P Q w → Q (exits f end k i w)
    go zero i (on s) h = last s h
    go zero i (out r) h = h
    go (suc k) i (on s) h = go k (i + 1) (f i s) (step i s h)
    go (suc k) i (out r) h = h

-- The same with the iterations counted: P i of the state before iteration i, Q of each answer.
pub searched_keeps_at : {S R : Type 0} (f : ℕ → S → Flow S R) (end : S → R) (P : ℕ → S → Type 0) (Q : R → Type 0) (a b : ℕ)
    → ((i : ℕ) (s : S) → i < b → P i s → Kept (P (i + 1)) Q (f i s)) → ((s : S) → P b s → Q (end s)) → a ≤ b → (s : S) → P a s → Q (searched f end a b (on s))
unfolding exits
searched_keeps_at {S} {R} f end P Q a b step last h s p = go (b - a) a (omega arith) (on s) p
  where
    go : (k i : ℕ) → i + k ≡ b → (w : Flow S R) → Kept (P i) Q w → Q (exits f end k i w)
    go zero i e (on s) p = last s (subst (λ (j : ℕ). P j s) (let f : i ≡ b = omega arith in f) p)
    go zero i e (out r) p = p
    go (suc k) i e (on s) p = go k (i + 1) (omega arith) (f i s) (step i s (omega arith) p)
    go (suc k) i e (out r) p = p

-- two loops that differ in their ends alone: the same answer, or both ends of one state
pub searched_ends : {S R : Type 0} (f : ℕ → S → Flow S R) (e d : S → R) (Q : R → R → Type 0) → ((r : R) → Q r r) → ((s : S) → Q (e s) (d s))
    → (a b : ℕ) (w : Flow S R) → Q (searched f e a b w) (searched f d a b w)
unfolding exits
searched_ends {S} {R} f e d Q same last a b w = go (b - a) a w
  where
    go : (k i : ℕ) (w : Flow S R) → Q (exits f e k i w) (exits f d k i w)
    go zero i (on s) = last s
    go zero i (out r) = same r
    go (suc k) i (on s) = go k (i + 1) (f i s)
    go (suc k) i (out r) = same r

-- a loop in two parts: what the first leaves, the second goes on with
pub searched_parts : {S R : Type 0} (f : ℕ → S → Flow S R) (end : S → R) (a m b : ℕ) → a ≤ m → m ≤ b → (w : Flow S R)
    → searched f end a b w ≡ searched f (λ s. searched f end m b (on s)) a m w
unfolding exits
searched_parts {S} {R} f end a m b h l w =
    ap (λ (n : ℕ). exits f end n a w) (let e : b - a ≡ (m - a) + (b - m) = omega arith in e) ∙ go (m - a) a (omega arith) w
  where
    left : (n i : ℕ) (r : R) → exits f end n i (out r) ≡ r
    left zero i r = refl
    left (suc n) i r = refl

    go : (n i : ℕ) → i + n ≡ m → (w : Flow S R) → exits f end (n + (b - m)) i w ≡ exits f (λ s. exits f end (b - m) m (on s)) n i w
    go zero i e (on s) =
        ap (λ (n : ℕ). exits f end n i (on s)) (let p : 0 + (b - m) ≡ b - m = omega arith in p)
        ∙ ap (λ (k : ℕ). exits f end (b - m) k (on s)) (let q : i ≡ m = omega arith in q)
    go zero i e (out r) = left (0 + (b - m)) i r
    go (suc n) i e (on s) =
        ap (λ (k : ℕ). exits f end k i (on s)) (let p : suc n + (b - m) ≡ suc (n + (b - m)) = omega arith in p) ∙ go n (i + 1) (omega arith) (f i s)
    go (suc n) i e (out r) = left (suc n + (b - m)) i r
