-- The laws of lists put over others: their lengths and parts, and one put behind another.
use mathlib.Core.Path.{◌≡◌, ap, sym, ◌∙◌}
use mathlib.Core.List.{List, [], ◌∷◌, ◌++◌, append-nil, append_assoc}
use Prim.Native.Nat.{ℕ, suc, ◌+◌, ◌≤◌, ◌<◌}
use native.Mathlib.Nat.{add-zero, zero-add}
use native.Mathlib.Numerals.{add-one}
use native.Mathlib.Omega.{arith}
use lib.ListN.{length, take, drop, set, length-append, length-drop, take-append-drop}
use lib.Seq.{drop-append-add, drop-append_seam, drop-cons, drop-drop, length-take-le, set-append_seam, take-append_seam, take_at}
use Rattle.loops.specs.Over.{over, written}

module _ {A : Type 0} where
  length_over_head : (l : List A) (at : ℕ) (vs : List A) → at + length vs ≤ length l → length (take at l ++ vs) ≡ at + length vs
  length_over_head l at vs h =
      let e : length (take at l) ≡ at = length-take-le at l (omega arith) in
      length-append (take at l) vs ∙ ap (λ (k : ℕ). k + length vs) e

  pub take_over : (l : List A) (at : ℕ) (vs : List A) → at + length vs ≤ length l → take (at + length vs) (over l at vs) ≡ take at l ++ vs
  take_over l at vs h = take_at (take at l ++ vs) (drop (at + length vs) l) (at + length vs) (length_over_head l at vs h)

  pub length_over : (l : List A) (at : ℕ) (vs : List A) → at + length vs ≤ length l → length (over l at vs) ≡ length l
  length_over l at vs h =
      length-append (take at l ++ vs) (drop (at + length vs) l)
      ∙ (let e = length_over_head l at vs h in let f = length-drop (at + length vs) l in omega arith)

  -- one list put down behind another
  over_twice : (l : List A) (at : ℕ) (xs ys : List A) → at + length xs + length ys ≤ length l → over (over l at xs) (at + length xs) ys ≡ over l at (xs ++ ys)
  over_twice l at xs ys h =
      let e = length_over_head l at xs (omega arith) in
      let n = length-append xs ys in
      ap (λ (z : List A). z ++ ys ++ drop (at + length xs + length ys) (over l at xs)) (take_over l at xs (omega arith))
      ∙ ap (λ (z : List A). (take at l ++ xs) ++ ys ++ z)
      (ap (λ (k : ℕ). drop (k + length ys) (over l at xs)) (sym e) ∙ drop-append-add (take at l ++ xs) (drop (at + length xs) l) (length ys)
      ∙ drop-drop (length ys) (at + length xs) l)
      ∙ ap (λ (z : List A). z ++ drop (at + length xs + length ys) l) (append_assoc (take at l) xs ys)
      ∙ ap (λ (k : ℕ). take at l ++ (xs ++ ys) ++ drop k l) (let f : at + length xs + length ys ≡ at + length (xs ++ ys) = omega arith in f)

  -- by two stores, one behind the other
  pub over_next : (l : List A) (at n : ℕ) (xs ys : List A) {m r : List A} → length xs ≡ n → at + n + length ys ≤ length l → m ≡ over l at xs
      → r ≡ over m (at + n) ys → r ≡ over l at (xs ++ ys)
  over_next l at n xs ys {m} e h f g =
      g ∙ ap (λ (z : List A). over z (at + n) ys) f ∙ ap (λ (k : ℕ). over (over l at xs) (at + k) ys) (sym e) ∙ over_twice l at xs ys (omega arith)

  -- nothing put anywhere
  pub over_nothing : (l : List A) (at : ℕ) → over l at [] ≡ l
  over_nothing l at = rw (append-nil, add-zero) (take-append-drop at l)

  -- ---- at the front

  pub over_front : (l vs : List A) → over l 0 vs ≡ written vs l
  unfolding written
  over_front l vs = rw zero-add

  pub take_written : (vs l : List A) → take (length vs) (written vs l) ≡ vs
  unfolding written
  take_written vs l = take-append_seam vs (drop (length vs) l)

  pub length_written : (vs l : List A) → length vs ≤ length l → length (written vs l) ≡ length l
  unfolding written
  length_written vs l h = length-append vs (drop (length vs) l) ∙ (let e = length-drop (length vs) l in omega arith)

  -- one list put down behind another at the front
  pub written_over : (t s l : List A) → over (written t l) (length t) s ≡ written (t ++ s) l
  unfolding written
  written_over t s l =
      rw (take-append_seam, ← drop-drop (length s) (length t) (t ++ drop (length t) l), drop-append_seam, drop-drop, length-append) (simp append_assoc)

  -- one value more at the front
  pub written_next : (t l : List A) (v : A) → length t < length l → set (written t l) (length t) v ≡ written (t ++ (v ∷ [])) l
  unfolding written
  written_next t l v h =
      ap (λ (z : List A). set (t ++ z) (length t) v) (drop-cons l (length t) v h) ∙ set-append_seam t _ (drop (suc (length t)) l) v
      ∙ (let n = length-append t (v ∷ []) in rw (n, add-one) (sym (append_assoc t (v ∷ []) (drop (suc (length t)) l))))
