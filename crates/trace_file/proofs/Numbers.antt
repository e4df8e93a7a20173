-- The numbers of a file: finite; as bytes and read again.
use mathlib.Core.Path.{◌≡◌, refl, sym, ap, ◌∙◌}
use mathlib.Core.Bool.{Bool, true, false, ◌&&◌}
use mathlib.Core.List.{List, [], ◌∷◌, ◌++◌, append_assoc}
use Prim.Native.Nat.{ℕ, zero, suc, ◌+◌, ◌*◌, ◌≤◌, ◌<◌}
use native.Mathlib.Nat.{le_trans, mul-le-mul_right}
use native.Mathlib.Omega.{arith}
use lib.Dec.{T}
use lib.Ieee.{Float, nan}
use lib.Ieee.Scale.{finite}
use lib.ListN.{length, take, drop, get_or}
use lib.Seq.{drop-drop, length-take-le, take-add}
use denote.Floats.{passes}
use Rattle.loops.specs.Over.{written}
use Rattle.number.proofs.Binary64.{AllFit}
use Rattle.std.specs.List.{list_all}
use Rattle.wire.specs.Wire.{number_at, number_bytes, numbers_from, numbers_bytes, AllBytes}
use Rattle.wire.proofs.Laws.{number_length, behind, number_back, number_again}
use Rattle.wire.proofs.Several.{from_length}
use Rattle.groups.proofs.Groups.{both}
use Rattle.trace_file.specs.Layout.{most_width, numbers_place}
use Rattle.trace_file.specs.File.{all_finite}

-- ---- no product is too large

pub product_small : (w count : ℕ) → w ≤ most_width → count < 65536 → w * count ≤ 1048576
product_small w count h k = le_trans (mul-le-mul_right count h) (omega arith)

-- ---- all finite

-- in std's words
pub finite_listed : (l : List Float) → all_finite l ≡ list_all finite l
unfolding all_finite
finite_listed [] = refl
finite_listed (x ∷ l) = ap (λ (b : Bool). finite x && b) (finite_listed l)

-- they are all finite where each is
pub all_each : (l : List Float) → ((k : ℕ) → k < length l → T (finite (get_or l k nan))) → all_finite l ≡ true
unfolding all_finite
all_each [] f = refl
all_each (x ∷ l) f = go (finite x) (f 0 (omega arith)) (all_each l (λ k h. f (suc k) (omega arith)))
  where
    go : (b : Bool) → T b → all_finite l ≡ true → (b && all_finite l) ≡ true
    go true h e = e
    go false h e = absurd h

-- ---- read into a list

pub filled : (s : List ℕ) (t : List Float) (n : ℕ) {m : List Float} → n ≤ length t → m ≡ numbers_from s numbers_place (length (take n t))
    → m ++ drop n t ≡ written (numbers_from s numbers_place n) t
unfolding written
filled s t n h e =
    ap (λ (z : List Float). z ++ drop n t) (e ∙ ap (numbers_from s numbers_place) (length-take-le n t h))
    ∙ ap (λ (k : ℕ). numbers_from s numbers_place n ++ drop k t) (sym (from_length s numbers_place n))

-- ---- there and back

-- what was put down is read
pub numbers_back : (l : List Float) (s q : List ℕ) (at : ℕ) → AllFit l → drop at s ≡ numbers_bytes l ++ q → numbers_from s at (length l) ≡ l
unfolding numbers_bytes numbers_from
numbers_back [] s q at f e = refl
numbers_back (x ∷ l) s q at f e =
    let d = e ∙ append_assoc (number_bytes x) (numbers_bytes l) q in
    ap (λ (y : Float). y ∷ numbers_from s (at + 8) (length l)) (number_back s (numbers_bytes l ++ q) at x f.0 d)
    ∙ ap (λ (m : List Float). x ∷ m) (numbers_back l s q (at + 8) f.1 (behind s at 8 (number_bytes x) (numbers_bytes l ++ q) d (number_length x)))

-- what was read is put down again
pub numbers_again : (s : List ℕ) (at n : ℕ) → AllBytes s → at + 8 * n ≤ length s → all_finite (numbers_from s at n) ≡ true
    → numbers_bytes (numbers_from s at n) ≡ take (8 * n) (drop at s)
unfolding numbers_bytes numbers_from all_finite
numbers_again s at zero d h e = refl
numbers_again s at (suc n) d h e =
    let b = both (finite (number_at s at)) (all_finite (numbers_from s (at + 8) n)) e in
    ap (λ (z : List ℕ). z ++ numbers_bytes (numbers_from s (at + 8) n)) (number_again s at d (omega arith) (passes _ b.0))
    ∙ ap (λ (z : List ℕ). take 8 (drop at s) ++ z) (numbers_again s (at + 8) n d (omega arith) b.1 ∙ ap (take (8 * n)) (sym (drop-drop 8 at s)))
    ∙ sym (take-add 8 (8 * n) (drop at s)) ∙ ap (λ (j : ℕ). take j (drop at s)) (let f : 8 + 8 * n ≡ 8 * suc n = omega arith in f)
