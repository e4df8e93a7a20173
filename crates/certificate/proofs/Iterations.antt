-- One iteration of each of the check's loops, as the functions' proofs cite it.
use Rattle.std.specs.Prelude.{Option, Ok, Err}
use Rattle.std.specs.List.{list_all, zip}
use mathlib.Core.Path.{◌≡◌, refl, ap, ap₂, ◌∙◌}
use mathlib.Core.Bool.{Bool, ◌&&◌}
use mathlib.Core.List.{List, [], ◌∷◌}
use Prim.Native.Nat.{ℕ, ◌+◌, ◌-◌, ◌*◌, ◌/◌, ◌≤◌}
use native.Mathlib.Omega.{arith}
use lib.ListN.{length, take}
use lib.Ieee.{Float}
use Rattle.loops.specs.Loop.{on, out, searched}
use Rattle.number.specs.Helpers.{same_bits}
use Rattle.refusal.specs.declared.Refusal.{Refusal}
use Rattle.refusal.specs.Verdict.{Verdict}
use Rattle.groups.specs.declared.row.Row.{Row}
use Rattle.groups.specs.Groups.{width}
use Rattle.groups.specs.Row.{row_of}
use Rattle.groups.proofs.Items.{searched_same}
use Rattle.groups.proofs.Rows.{count_taken, row_taken}
use Rattle.patch.specs.declared.patch.Patch.{Patch}
use Rattle.certificate.specs.Check.{is_own, point_verdict, stopped, point_body, all_passed, points_verdict, same_numbers}

-- ---- the points

module _ (a b : Patch) (confusion : Float) (rows : ℕ → Row) (end : Option ℕ) (i : ℕ) {before r : Row} {s : Verdict} where
  module _ (p : before ≡ rows (i - 1)) (q : r ≡ rows i) (e : s ≡ point_verdict (is_own a) a b confusion before r end i) where
    -- a refusal ends the loop, and it goes on from a point that passes
    pub point_out : {t : Refusal} → s ≡ Err t → point_body (is_own a) a b confusion rows end i tt ≡ out (Err t)
    point_out f = rw (← p, ← q, ← e, f)

    pub point_on_lem : s ≡ Ok tt → point_body (is_own a) a b confusion rows end i tt ≡ on tt
    point_on_lem f = rw (← p, ← q, ← e, f)

-- the row read is the one before the next
pub row_kept : (rows : ℕ → Row) (i : ℕ) {r : Row} → r ≡ rows i → r ≡ rows (i + 1 - 1)
row_kept rows i e = let n : i + 1 - 1 ≡ i = omega arith in rw n e

-- ---- the numbers of two points

pub same_zip : (l m : List Float) → length l ≡ length m → list_all (λ (p : Float × Float). same_bits p.0 p.1) (zip l m) ≡ same_numbers l m
unfolding same_numbers
same_zip [] [] e = refl
same_zip [] (y ∷ m) e = absurd (omega (arith, e))
same_zip (x ∷ l) [] e = absurd (omega (arith, e))
same_zip (x ∷ l) (y ∷ m) e = ap (λ (t : Bool). same_bits x y && t) (same_zip l m (omega (arith, e)))

-- ---- the trace cut to its points

pub verdict_taken : (a b : Patch) (confusion : Float) (l : List Float) (n : ℕ) (end : Option ℕ) → width * n ≤ length l
    → points_verdict (is_own a) a b confusion (row_of (take (width * n) l)) (length (take (width * n) l) / width) end
    ≡ points_verdict (is_own a) a b confusion (row_of l) n end
unfolding points_verdict
verdict_taken a b confusion l n end h =
    let part = point_body (is_own a) a b confusion (row_of (take (width * n) l)) end in
    ap (λ (k : ℕ). searched part all_passed 0 k (on tt)) (count_taken l n h)
    ∙ searched_same part (point_body (is_own a) a b confusion (row_of l) end) all_passed 0 n
    (λ i s z k. ap₂ (λ (p q : Row). stopped (point_verdict (is_own a) a b confusion p q end i)) (row_taken l n (i - 1) h (omega arith)) (row_taken l n i h k)) tt
