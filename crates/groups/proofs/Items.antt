-- Loops over the items of a list: what a chain of an iterator's methods computes is what a loop that counts computes.
use mathlib.Core.Path.{◌≡◌, refl, sym, ap, ◌∙◌}
use mathlib.Core.Bool.{Bool, not}
use mathlib.Core.List.{List, [], ◌∷◌}
use Prim.Native.Nat.{ℕ, zero, suc, ◌+◌, ◌-◌, ◌≤◌, ◌<◌}
use native.Mathlib.Omega.{arith}
use lib.ListN.{length, get_or}
use Rattle.std.specs.List.{list_any, list_all, fold, position_from}
use Rattle.loops.specs.Loop.{ranged, Flow, on, out, exits, searched}
use Rattle.loops.specs.Any.{any_in}
use Rattle.loops.specs.First.{first_in}
use Rattle.loops.proofs.Loop.{ranged_end, ranged_step}
use Rattle.loops.proofs.Any.{cases, any_again, any_leave, any_done, any_found, any_at, any_none, any_fails}
use Rattle.loops.proofs.First.{first_again, first_leave, first_done}

-- `any` is the search for an index
pub any_items : {A : Type 0} (test : A → Bool) (at : ℕ → Bool) (xs : List A) (k : ℕ) → ((i : ℕ) (d : A) → i < length xs → test (get_or xs i d) ≡ at (k + i))
    → list_any test xs ≡ any_in at k (k + length xs)
any_items test at [] k same = any_done at k (k + 0) (omega arith) refl
any_items test at (x ∷ xs) k same =
    let here : test x ≡ at k = same 0 x (omega arith) ∙ ap at (let e : k + 0 ≡ k = omega arith in e) in
    let rest : list_any test xs ≡ any_in at (k + 1) (k + 1 + length xs) =
    any_items test at xs (k + 1) (λ i d h. same (suc i) d (omega arith) ∙ ap at (let e : k + suc i ≡ k + 1 + i = omega arith in e)) in
    let end : k + 1 + length xs ≡ k + suc (length xs) = omega arith in
    cases (at k) (λ t. rw (here, t) (any_leave at k (k + suc (length xs)) (omega arith) t refl))
    (λ f. rw (here, f, rest, end) (any_again at k (k + suc (length xs)) (omega arith) f refl))

-- `position` is the search for the first index
pub position_items : {A : Type 0} (test : A → Bool) (at : ℕ → Bool) (xs : List A) (k : ℕ)
    → ((i : ℕ) (d : A) → i < length xs → test (get_or xs i d) ≡ at (k + i)) → position_from test k xs ≡ first_in at k (k + length xs)
position_items test at [] k same = first_done at k (k + 0) (omega arith)
position_items test at (x ∷ xs) k same =
    let here : test x ≡ at k = same 0 x (omega arith) ∙ ap at (let e : k + 0 ≡ k = omega arith in e) in
    let rest : position_from test (k + 1) xs ≡ first_in at (k + 1) (k + 1 + length xs) =
    position_items test at xs (k + 1) (λ i d h. same (suc i) d (omega arith) ∙ ap at (let e : k + suc i ≡ k + 1 + i = omega arith in e)) in
    let end : k + 1 + length xs ≡ k + suc (length xs) = omega arith in
    cases (at k) (λ t. rw (here, t) (first_leave at k (k + suc (length xs)) (omega arith) t))
    (λ f. rw (here, f, rest, end) (first_again at k (k + suc (length xs)) (omega arith) f))

-- two searches whose tests agree
pub any_same : (p q : ℕ → Bool) (a b : ℕ) → ((i : ℕ) → a ≤ i → i < b → p i ≡ q i) → any_in p a b ≡ any_in q a b
any_same p q a b same =
    cases (any_in p a b) (λ y. let f = any_found p a b y in y ∙ sym (any_at q a b f.0 f.1 f.2 (sym (same f.0 f.1 f.2) ∙ f.3)))
    (λ n. n ∙ sym (any_none q a b (λ i h k. sym (same i h k) ∙ any_fails p a b n i h k)))

-- two searches that agree at every index
pub searched_same : {S R : Type 0} (f g : ℕ → S → Flow S R) (end : S → R) (a b : ℕ) → ((i : ℕ) (s : S) → a ≤ i → i < b → f i s ≡ g i s) → (s : S)
    → searched f end a b (on s) ≡ searched g end a b (on s)
unfolding exits
searched_same {S} {R} f g end a b same s = go (b - a) a (omega arith) (omega arith) (on s)
  where
    go : (k i : ℕ) → a ≤ i → i + k ≤ a + (b - a) → (w : Flow S R) → exits f end k i w ≡ exits g end k i w
    go zero i h n (on s) = refl
    go zero i h n (out r) = refl
    go (suc k) i h n (on s) = ap (exits f end k (i + 1)) (same i s h (omega arith)) ∙ go k (i + 1) (omega arith) (omega arith) (g i s)
    go (suc k) i h n (out r) = refl

-- `all` fails where the search finds an item that fails
pub not_all : {A : Type 0} (test : A → Bool) (xs : List A) → not (list_all test xs) ≡ list_any (λ x. not (test x)) xs
not_all test [] = refl
not_all test (x ∷ xs) = cases (test x) (λ t. rw t (not_all test xs)) (λ f. rw f)

-- `fold` is the loop that counts
pub fold_items : {A S : Type 0} (f : S → A → S) (g : ℕ → S → S) (xs : List A) (k : ℕ) (s : S)
    → ((i : ℕ) (d : A) (t : S) → i < length xs → f t (get_or xs i d) ≡ g (k + i) t) → fold f s xs ≡ ranged g k (k + length xs) s
fold_items f g [] k s same = sym (ranged_end g k (k + 0) s (omega arith))
fold_items f g (x ∷ xs) k s same =
    let here : f s x ≡ g k s = same 0 x s (omega arith) ∙ ap (λ (j : ℕ). g j s) (let e : k + 0 ≡ k = omega arith in e) in
    let end : k + 1 + length xs ≡ k + suc (length xs) = omega arith in
    fold_items f g xs (k + 1) (f s x) (λ i d t h. same (suc i) d t (omega arith) ∙ ap (λ (j : ℕ). g j t) (let e : k + suc i ≡ k + 1 + i = omega arith in e))
    ∙ rw (here, end) (sym (ranged_step g k (k + suc (length xs)) s (omega arith)))
