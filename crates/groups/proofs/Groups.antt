-- The laws of groups in a flat list, for every width.
use mathlib.Core.Path.{◌≡◌, refl, sym, subst, ◌∙◌}
use mathlib.Core.Bool.{Bool, true, false, ◌&&◌}
use mathlib.Core.List.{List}
use Prim.Native.Nat.{ℕ, ◌-◌, ◌*◌, ◌/◌, ◌≤◌, ◌<◌}
use native.Mathlib.Omega.{arith}
use lib.Dec.{leb}
use lib.ListN.{length, take, drop, length-drop}
use lib.Seq.{take_all}
use native.Mathlib.Nat.{mul_comm, le-div_iff_mul-le, div-lt_iff_lt-mul}
use borrow.Author.Tests.{leb-true, leb-false, le-leb, lt-leb}
use Rattle.groups.specs.Groups.{least_points, most_points, count_fits, holds_of}

-- the part of a slice from number k on, as the borrow checker writes it, is the list without the numbers before
pub part_from : {A : Type 0} (k : ℕ) (l : List A) → take (length l - k) (drop k l) ≡ drop k l
part_from k l = take_all (length l - k) (drop k l) (let f = length-drop k l in omega arith)

-- whole groups are counted by the quotient
pub holds_quotient : {A : Type 0} (w : ℕ) (l : List A) (count : ℕ) → 0 < w → leb count (length l / w) ≡ holds_of w l count
unfolding holds_of
holds_quotient w l count h = go (leb (w * count) (length l)) refl
  where
    go : (t : Bool) → leb (w * count) (length l) ≡ t → leb count (length l / w) ≡ leb (w * count) (length l)
    go true e = le-leb _ _ ((le-div_iff_mul-le h).1 (subst (λ (n : ℕ). n ≤ length l) (mul_comm w count) (leb-true _ _ e))) ∙ sym e
    go false e = lt-leb _ _ ((div-lt_iff_lt-mul h).1 (subst (λ (n : ℕ). length l < n) (mul_comm w count) (leb-false _ _ e))) ∙ sym e

-- what a caller learns where it holds
pub holds_length : {A : Type 0} (w : ℕ) (l : List A) (count : ℕ) → holds_of w l count ≡ true → w * count ≤ length l
unfolding holds_of
holds_length w l count e = leb-true _ _ e

-- both parts of a conjunction hold
pub both : (x y : Bool) → x && y ≡ true → (x ≡ true) × (y ≡ true)
both true y e = (refl, e)
both false y e = let z : ◌≡◌ {A = ℕ} 0 1 = cc in absurd (omega arith)

-- a count that 12 lets through, and back
pub count_fits_lem : (count : ℕ) → count_fits count ≡ true → (least_points ≤ count) × (count ≤ most_points)
unfolding count_fits
count_fits_lem count e =
    let s = both (leb least_points count) (leb count most_points) e in
    (leb-true least_points count s.0, leb-true count most_points s.1)

pub fits_count : (count : ℕ) → least_points ≤ count → count ≤ most_points → count_fits count ≡ true
unfolding count_fits
fits_count count h k = rw (le-leb least_points count h, le-leb count most_points k)
