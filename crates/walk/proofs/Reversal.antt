-- Points reversed in place: a number by its point and its place in the point.
use mathlib.Core.Path.{◌≡◌, refl, ap, sym, subst, ◌∙◌}
use mathlib.Core.List.{List, [], ◌∷◌, ◌++◌, append-nil, append_assoc}
use mathlib.Core.Logic.{⊎_elim}
use Prim.Native.Nat.{ℕ, zero, suc, ◌+◌, ◌*◌, ◌-◌, ◌/◌, ◌%◌, ◌≤◌, ◌<◌}
use native.Mathlib.Omega.{arith}
use native.Mathlib.Nat.{eq-or-lt_of_le}
use native.Mathlib.Numerals.{add-one}
use lib.Ieee.{Float, nan}
use lib.ListN.{length, take, drop, get_or, length-append, length-drop, take-append-drop, get_or-append}
use lib.Seq.{length-take-le, take-append-le, drop-append-le, take-length, get_or-append-add, get_or-take, get_or-drop, ext_get_or}
use Rattle.std.proofs.lemmas.Bool.{cases_lt}
use Rattle.loops.proofs.Over.{length_over}
use Rattle.groups.specs.Groups.{width}
use Rattle.groups.specs.declared.row.Row.{Row}
use Rattle.groups.specs.Row.{numbers_of, row_from}
use Rattle.groups.proofs.Rows.{row_number}
use Rattle.walk.specs.Lent.{placed, reversed_of}

-- one past a list, by how far past it
past : (p q : List Float) (n t : ℕ) → length p + n ≡ t → get_or (p ++ q) t nan ≡ get_or q n nan
past p q n t e = ap (λ (k : ℕ). get_or (p ++ q) k nan) (sym e) ∙ get_or-append-add p q n nan

-- `placed`, before, in and after the point's numbers
module _ (l : List Float) (at : ℕ) (q : Row) (fits : at + width ≤ length l) where
  lt : length (take at l) ≡ at
  lt = length-take-le at l (omega arith)

  lh : length (take at l ++ numbers_of q) ≡ at + width
  lh = length-append (take at l) (numbers_of q) ∙ ap (λ (k : ℕ). k + width) lt

  before : (t : ℕ) → t < at → get_or (placed l at q) t nan ≡ get_or l t nan
  before t h =
      get_or-append (take at l ++ numbers_of q) (drop (at + width) l) nan t (let e = lh in omega arith)
      ∙ get_or-append (take at l) (numbers_of q) nan t (let e = lt in omega arith)
      ∙ get_or-take at l t nan h

  inside : (r : ℕ) → r < width → get_or (placed l at q) (at + r) nan ≡ get_or (numbers_of q) r nan
  inside r h =
      get_or-append (take at l ++ numbers_of q) (drop (at + width) l) nan (at + r) (let e = lh in omega arith)
      ∙ past (take at l) (numbers_of q) r (at + r) (let e = lt in omega arith)

  beyond : (t : ℕ) → at + width ≤ t → get_or (placed l at q) t nan ≡ get_or l t nan
  beyond t h =
      past (take at l ++ numbers_of q) (drop (at + width) l) (t - (at + width)) t (let e = lh in omega arith)
      ∙ get_or-drop (at + width) l (t - (at + width)) nan
      ∙ ap (λ (k : ℕ). get_or l k nan) (let e : at + width + (t - (at + width)) ≡ t = omega arith in e)

-- a point stored over point j: what stands at point j, and at another
pub stored_same : (l m : List Float) (j i r : ℕ) {q : Row} → width * j + width ≤ length l → r < width → q ≡ row_from m (width * i)
    → get_or (placed l (width * j) q) (width * j + r) nan ≡ get_or m (width * i + r) nan
stored_same l m j i r fits h e = rw e (inside l (width * j) (row_from m (width * i)) fits r h ∙ row_number m i r h)

pub stored_other : (l : List Float) (j a r : ℕ) (q : Row) → width * j + width ≤ length l → r < width → (a ≡ j → ⊥)
    → get_or (placed l (width * j) q) (width * a + r) nan ≡ get_or l (width * a + r) nan
stored_other l j a r q fits h ne =
    ⊎_elim
    (λ (lo : a < j). before l (width * j) q fits (width * a + r) (omega arith))
    (λ (hi : j ≤ a). ⊎_elim (λ (e : j ≡ a). absurd (ne (sym e))) (λ (g : j < a). beyond l (width * j) q fits (width * a + r) (omega arith)) (eq-or-lt_of_le hi))
    (cases_lt a j)

-- `reversed_of`, by point and place
pub length_reversed : (k : ℕ) (l : List Float) → length l ≡ width * k → length (reversed_of k l) ≡ width * k
unfolding reversed_of
length_reversed zero l h = refl
length_reversed (suc k) l h =
    let d = length-drop width l in
    length-append (reversed_of k (drop width l)) (take width l)
    ∙ (let x = length_reversed k (drop width l) (omega arith) in let y = length-take-le width l (omega arith) in omega arith)

pub reversed_at : (k : ℕ) (l : List Float) → length l ≡ width * k → (a r : ℕ) → a < k → r < width
    → get_or (reversed_of k l) (width * a + r) nan ≡ get_or l (width * (k - 1 - a) + r) nan
unfolding reversed_of
reversed_at zero l h a r ha hr = absurd (let e : ⊥ = omega arith in e)
reversed_at (suc k) l h a r ha hr =
    let d = length-drop width l in
    let hd : length (drop width l) ≡ width * k = omega arith in
    let ll = length_reversed k (drop width l) hd in
    ⊎_elim
    (λ (lo : a < k).
    get_or-append (reversed_of k (drop width l)) (take width l) nan (width * a + r) (omega arith)
    ∙ reversed_at k (drop width l) hd a r lo hr
    ∙ get_or-drop width l (width * (k - 1 - a) + r) nan
    ∙ ap (λ (t : ℕ). get_or l t nan) (let e : width + (width * (k - 1 - a) + r) ≡ width * (suc k - 1 - a) + r = omega arith in e))
    (λ (hi : k ≤ a).
    past (reversed_of k (drop width l)) (take width l) r (width * a + r) (omega arith)
    ∙ get_or-take width l r nan hr
    ∙ ap (λ (t : ℕ). get_or l t nan) (let e : r ≡ width * (suc k - 1 - a) + r = omega arith in e))
    (cases_lt a k)

-- of lists one behind the other, and twice
pub reversed_append : (j k : ℕ) (xs ys : List Float) → length xs ≡ width * j → reversed_of (j + k) (xs ++ ys) ≡ reversed_of k ys ++ reversed_of j xs
unfolding reversed_of
reversed_append zero k [] ys h = ap (λ (n : ℕ). reversed_of n ys) (let e : 0 + k ≡ k = omega arith in e) ∙ sym (append-nil (reversed_of k ys))
reversed_append zero k (x ∷ xs) ys h = absurd (let e : ⊥ = omega (arith, h) in e)
reversed_append (suc j) k xs ys h =
    let d = length-drop width xs in
    ap (λ (n : ℕ). reversed_of n (xs ++ ys)) (let e : suc j + k ≡ suc (j + k) = omega arith in e)
    ∙ ap (λ (z : List Float). reversed_of (j + k) z ++ take width (xs ++ ys)) (drop-append-le width xs ys (omega (arith, h)))
    ∙ ap (λ (z : List Float). reversed_of (j + k) (drop width xs ++ ys) ++ z) (take-append-le width xs ys (omega (arith, h)))
    ∙ ap (λ (z : List Float). z ++ take width xs) (reversed_append j k (drop width xs) ys (omega (arith, d, h)))
    ∙ append_assoc (reversed_of k ys) (reversed_of j (drop width xs)) (take width xs)

reversed_one : (l : List Float) → length l ≡ width → reversed_of 1 l ≡ l
unfolding reversed_of
reversed_one l h = ap (λ (k : ℕ). take k l) (sym h) ∙ take-length l

pub reversed_twice : (k : ℕ) (l : List Float) → length l ≡ width * k → reversed_of k (reversed_of k l) ≡ l
unfolding reversed_of
reversed_twice zero [] h = refl
reversed_twice zero (x ∷ xs) h = absurd (let e : ⊥ = omega (arith, h) in e)
reversed_twice (suc k) l h =
    let d = length-drop width l in
    let dk : length (drop width l) ≡ width * k = omega (arith, d, h) in
    ap (λ (n : ℕ). reversed_of n (reversed_of k (drop width l) ++ take width l)) (sym (add-one k))
    ∙ reversed_append k 1 (reversed_of k (drop width l)) (take width l) (length_reversed k (drop width l) dk)
    ∙ ap (λ (z : List Float). z ++ reversed_of k (reversed_of k (drop width l))) (reversed_one (take width l) (length-take-le width l (omega (arith, h))))
    ∙ ap (λ (z : List Float). take width l ++ z) (reversed_twice k (drop width l) dk)
    ∙ take-append-drop width l

-- ---- the loop: i points at each end are exchanged, those between are as they were
pub record Reversing (k i : ℕ) (b s : List Float) : Type 0 where
  pub size : length s ≡ length b
  pub low : (a r : ℕ) → r < width → a < i → get_or s (width * a + r) nan ≡ get_or b (width * (k - 1 - a) + r) nan
  pub high : (a r : ℕ) → r < width → a < k → k - i ≤ a → get_or s (width * a + r) nan ≡ get_or b (width * (k - 1 - a) + r) nan
  pub middle : (a r : ℕ) → r < width → i ≤ a → a < k - i → get_or s (width * a + r) nan ≡ get_or b (width * a + r) nan

pub reversing_start : (k : ℕ) (b : List Float) → Reversing k 0 b b
reversing_start k b = record {
  size = refl;
  low = λ a r h l. absurd (let e : ⊥ = omega arith in e);
  high = λ a r h l m. absurd (let e : ⊥ = omega arith in e);
  middle = λ a r h l m. refl;
}

module _ (k i : ℕ) (b s : List Float) (hb : length b ≡ width * k) (hi : i < k / 2) (v : Reversing k i b s) {p q : Row} {s' s'' : List Float}
    (ep : p ≡ row_from s (width * i)) (eq : q ≡ row_from s (width * (k - 1 - i)))
    (e' : s' ≡ placed s (width * i) q) (e'' : s'' ≡ placed s' (width * (k - 1 - i)) p) where
  l0 : length s ≡ width * k
  l0 = v.size ∙ hb

  fits_low : width * i + width ≤ length s
  fits_low = let e = l0 in omega arith

  l1 : length s' ≡ width * k
  l1 = ap length e' ∙ length_over s (width * i) (numbers_of q) fits_low ∙ l0

  fits_high : width * (k - 1 - i) + width ≤ length s'
  fits_high = let e = l1 in omega arith

  at_low : (r : ℕ) → r < width → get_or s'' (width * i + r) nan ≡ get_or s (width * (k - 1 - i) + r) nan
  at_low r h =
      ap (λ (l : List Float). get_or l (width * i + r) nan) e''
      ∙ stored_other s' (k - 1 - i) i r p fits_high h (λ e. omega arith)
      ∙ ap (λ (l : List Float). get_or l (width * i + r) nan) e'
      ∙ stored_same s s i (k - 1 - i) r fits_low h eq

  at_high : (r : ℕ) → r < width → get_or s'' (width * (k - 1 - i) + r) nan ≡ get_or s (width * i + r) nan
  at_high r h =
      ap (λ (l : List Float). get_or l (width * (k - 1 - i) + r) nan) e''
      ∙ stored_same s' s (k - 1 - i) i r fits_high h ep

  at_other : (a r : ℕ) → r < width → (a ≡ i → ⊥) → (a ≡ k - 1 - i → ⊥) → get_or s'' (width * a + r) nan ≡ get_or s (width * a + r) nan
  at_other a r h n m =
      ap (λ (l : List Float). get_or l (width * a + r) nan) e''
      ∙ stored_other s' (k - 1 - i) a r p fits_high h m
      ∙ ap (λ (l : List Float). get_or l (width * a + r) nan) e'
      ∙ stored_other s i a r q fits_low h n

  pub reversing_again : Reversing k (i + 1) b s''
  reversing_again = record {
    size = ap length e'' ∙ length_over s' (width * (k - 1 - i)) (numbers_of p) fits_high ∙ l1 ∙ sym hb;
    low = λ a r h l. ⊎_elim
        (λ (g : a < i). at_other a r h (λ e. omega arith) (λ e. omega arith) ∙ v.low a r h g)
        (λ (g : i ≤ a). let e : a ≡ i = omega arith in
        subst (λ (j : ℕ). get_or s'' (width * j + r) nan ≡ get_or b (width * (k - 1 - j) + r) nan) (sym e)
        (at_low r h ∙ v.middle (k - 1 - i) r h (omega arith) (omega arith)))
        (cases_lt a i);
    high = λ a r h l m. ⊎_elim
        (λ (g : a < k - i). let e : a ≡ k - 1 - i = omega arith in
        subst (λ (j : ℕ). get_or s'' (width * j + r) nan ≡ get_or b (width * (k - 1 - j) + r) nan) (sym e)
        (at_high r h ∙ v.middle i r h (omega arith) (omega arith)
        ∙ ap (λ (j : ℕ). get_or b (width * j + r) nan) (let f : i ≡ k - 1 - (k - 1 - i) = omega arith in f)))
        (λ (g : k - i ≤ a). at_other a r h (λ e. omega arith) (λ e. omega arith) ∙ v.high a r h l g)
        (cases_lt a (k - i));
    middle = λ a r h l m. at_other a r h (λ e. omega arith) (λ e. omega arith) ∙ v.middle a r h (omega arith) (omega arith);
  }

pub reversing_done : (k i : ℕ) (b s : List Float) → length b ≡ width * k → k / 2 ≤ i → i ≤ k / 2 → Reversing k i b s → s ≡ reversed_of k b
reversing_done k i b s hb lo hi v =
    ext_get_or nan s (reversed_of k b) (v.size ∙ hb ∙ sym (length_reversed k b hb))
    (λ t ht.
    let a = t / width in
    let r = t % width in
    let et : width * a + r ≡ t = omega arith in
    let hr : r < width = omega arith in
    let ha : a < k = let e = v.size in omega arith in
    subst (λ (j : ℕ). get_or s j nan ≡ get_or (reversed_of k b) j nan) et
    (by_place a r hr ha ∙ sym (reversed_at k b hb a r ha hr)))
  where
    by_place : (a r : ℕ) → r < width → a < k → get_or s (width * a + r) nan ≡ get_or b (width * (k - 1 - a) + r) nan
    by_place a r hr ha = ⊎_elim
        (λ (g : a < i). v.low a r hr g)
        (λ (g : i ≤ a). ⊎_elim
        (λ (f : a < k - i). v.middle a r hr g f ∙ ap (λ (j : ℕ). get_or b (width * j + r) nan) (let e : a ≡ k - 1 - a = omega arith in e))
        (λ (f : k - i ≤ a). v.high a r hr ha f)
        (cases_lt a (k - i)))
        (cases_lt a i)
