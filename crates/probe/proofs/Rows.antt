-- The numbers and the rows that are read are the definition's.
use mathlib.Core.Path.{◌≡◌, refl, sym, ap, ◌∙◌}
use mathlib.Core.List.{List, [], ◌∷◌, ◌++◌}
use Prim.Native.Nat.{ℕ, zero, suc, ◌+◌, ◌-◌, ◌*◌, ◌≤◌, ◌<◌}
use native.Mathlib.Omega.{arith}
use lib.Ieee.{Float, nan}
use lib.ListN.{length, get_or, take, drop}
use lib.Seq.{drop-cons, length-take-le}
use Rattle.std.proofs.Common.{mul-suc}
use Rattle.loops.specs.Over.{written}
use Rattle.probe.specs.Probe.{numbers_from, matrix_from}

taken : (n at : ℕ) (s : List Float) → at + n ≤ length s → take n (drop at s) ≡ numbers_from n at s
taken zero at s h = refl
taken (suc n) at s h =
    let e : suc at ≡ at + 1 = omega arith in
    ap (take (suc n)) (drop-cons s at nan (omega arith)) ∙ ap (λ (l : List Float). get_or s at nan ∷ l) (rw e (taken n (at + 1) s (omega arith)))

-- the part of a list from at to at + n
pub numbers_taken : (n at : ℕ) (s : List Float) → at + n ≤ length s → take (at + n - at) (drop at s) ≡ numbers_from n at s
numbers_taken n at s h =
    let e : at + n - at ≡ n = omega arith in
    rw e (taken n at s h)

-- rows that are each the definition's are its matrix
pub rows_filled : (k n at : ℕ) (s : List Float) (rows : List (List Float)) → length rows ≡ k
    → ((j : ℕ) → j < k → get_or rows j [] ≡ numbers_from n (at + n * j) s) → rows ≡ matrix_from k n at s
rows_filled zero n at s [] l h = refl
rows_filled zero n at s (r ∷ rows) l h = absurd (omega arith)
rows_filled (suc k) n at s [] l h = absurd (omega arith)
rows_filled (suc k) n at s (r ∷ rows) l h =
    let first : at + n * 0 ≡ at = omega arith in
    ap (λ (x : List Float). x ∷ rows) (rw first at (h 0 (omega arith)))
    ∙ ap (λ (t : List (List Float)). numbers_from n at s ∷ t)
    (rows_filled k n (at + n) s rows (omega arith)
    (λ j below.
    let next : at + n * suc j ≡ at + n + n * j = omega (arith, mul-suc n j) in
    rw next at (h (suc j) (omega arith))))

-- what is copied over a list's first n stands at its front
pub fronted : (n : ℕ) (x t : List Float) {new : List Float} → n ≤ length t → length new ≡ length (take n t) → new ≡ x → new ++ drop n t ≡ written x t
unfolding written
fronted n x t {new} h l e =
    let long : length x ≡ n = ap length (sym e) ∙ l ∙ length-take-le n t h in
    rw (e, long)
