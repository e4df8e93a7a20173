-- The numbers of points one behind the other, `row` giving those of one.
use mathlib.Core.Path.{◌≡◌, refl, ap, sym, ◌∙◌}
use mathlib.Core.List.{List, [], ◌∷◌, ◌++◌, reverse, reverse-cons}
use Prim.Native.Nat.{ℕ, ◌+◌, ◌*◌, ◌-◌, ◌≤◌}
use native.Mathlib.Omega.{arith}
use lib.Ieee.{Float}
use lib.ListN.{length, take, length-reverse}
use lib.Seq.{take_at, take-take}
use Rattle.groups.specs.Groups.{width}
use Rattle.groups.specs.declared.row.Row.{Row}
use Rattle.groups.specs.Row.{numbers_of}
use Rattle.patch.specs.declared.patch.Parameters.{Parameters}
use Rattle.walk.specs.Lent.{placed, reversed_of, rows_of}
use Rattle.walk.specs.Line.{without_last}
use Rattle.loops.proofs.Over.{take_over, length_over}

pub length_put : (l : List Float) (at : ℕ) (r : Row) {m : List Float} → at + width ≤ length l → m ≡ placed l at r → length m ≡ length l
length_put l at r h e = ap length e ∙ length_over l at (numbers_of r) h

module _ (row : Parameters → Row) where
  pub rows_append : (xs ys : List Parameters) → rows_of row (xs ++ ys) ≡ rows_of row xs ++ rows_of row ys
  unfolding rows_of
  rows_append [] ys = refl
  rows_append (x ∷ xs) ys = ap (λ (l : List Float). numbers_of (row x) ++ l) (rows_append xs ys)

  pub rows_length : (xs : List Parameters) → length (rows_of row xs) ≡ width * length xs
  unfolding rows_of
  rows_length [] = refl
  rows_length (x ∷ xs) = let e = rows_length xs in omega arith

  rows_last : (y : Parameters) (ys : List Parameters) → rows_of row (reverse (y ∷ ys)) ≡ rows_of row (reverse ys) ++ numbers_of (row y)
  unfolding rows_of
  rows_last y ys = ap (rows_of row) (reverse-cons y ys) ∙ rows_append (reverse ys) (y ∷ [])

  -- reversed they are the points last first
  pub reversed_rows : (xs : List Parameters) → reversed_of (length xs) (rows_of row xs) ≡ rows_of row (reverse xs)
  unfolding rows_of reversed_of
  reversed_rows [] = refl
  reversed_rows (x ∷ xs) = ap (λ (z : List Float). z ++ numbers_of (row x)) (reversed_rows xs) ∙ sym (rows_last x xs)

  -- a point put down behind the others
  pub pushed : (y : Parameters) (count : ℕ) (points : List Parameters) (l : List Float) {m : List Float} {r : Row} → take (width * count) l ≡ rows_of row (reverse points)
      → width * count + width ≤ length l → r ≡ row y → m ≡ placed l (width * count) r → take (width * (count + 1)) m ≡ rows_of row (reverse (y ∷ points))
  pushed y count points l {m} {r} written fits er em =
      ap (λ (k : ℕ). take k m) (let f : width * (count + 1) ≡ width * count + width = omega arith in f)
      ∙ ap (take (width * count + width)) em ∙ take_over l (width * count) (numbers_of r) fits
      ∙ ap (λ (k : List Float). k ++ numbers_of r) written
      ∙ ap (λ (q : Row). rows_of row (reverse points) ++ numbers_of q) er
      ∙ sym (rows_last y points)

  -- and the last one taken away
  pub popped : (count : ℕ) (l : List Float) (points : List Parameters) → count ≡ length points → 1 ≤ count → take (width * count) l ≡ rows_of row (reverse points)
      → (count - 1 ≡ length (without_last points)) × (take (width * (count - 1)) l ≡ rows_of row (reverse (without_last points)))
  popped count l [] size some written = absurd (let e : ⊥ = omega arith in e)
  popped count l (y ∷ ys) size some written = (
    omega arith,
    (sym (take-take (width * (count - 1)) (width * count) l (omega arith)) ∙ ap (take (width * (count - 1))) (written ∙ rows_last y ys)
        ∙ take_at (rows_of row (reverse ys)) (numbers_of (row y)) (width * (count - 1))
        (rows_length (reverse ys) ∙ ap (λ (k : ℕ). width * k) (length-reverse ys) ∙ (let e : width * length ys ≡ width * (count - 1) = omega arith in e))),
  )
