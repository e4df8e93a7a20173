-- What one iteration of each loop computes, for any size n, and what the solvers' loop does in a column.
use mathlib.Core.Path.{◌≡◌, refl, sym, ◌∙◌}
use mathlib.Core.List.{List, []}
use mathlib.Core.Bool.{Bool, true, false}
use Prim.Native.Nat.{ℕ, ◌+◌, ◌-◌, ◌≤◌, ◌<◌}
use native.Mathlib.Omega.{arith}
use lib.ListN.{get_or, set, length, take, drop, length-drop}
use Rattle.std.proofs.lemmas.List.{take_all, get_or-drop}
use lib.Ieee.{Float, nan}
use Rattle.std.specs.List.{swap}
use Rattle.loops.specs.Loop.{pick, on, out}
use Rattle.loops.proofs.Choice.{pick_is}
use Rattle.loops.proofs.Loop.{searched_again, searched_leave, searched_end}
use Rattle.number.specs.Operators.{◌⊖◌, ◌⊗◌, ◌⊘◌, ◌<?◌}
use Rattle.number.specs.Helpers.{abs_of}
use Rattle.solve.specs.Cramer.{cell, gives_up}
use Rattle.solve.specs.Solve.{System, system, greater_of, held_of, better, factor_of, row_eliminated, eliminate_row, eliminated_of, less_product, substituted, back_row}
use Rattle.solve.specs.Solve.{pivot_of, sum_of_magnitudes, column, solving, solve_of, Solved, singular}

-- what both of two rows have, the better of them has
pub better_kept : (P : ℕ → Type 0) (m : List (List Float)) (col row pivot : ℕ) {r : ℕ} → r ≡ better m col row pivot → P row → P pivot → P r
better_kept P m col row pivot e hr hp = rw e (pick_is P (abs_of (cell m pivot col) <? abs_of (cell m row col)) hr hp)

-- the better row by the entry that is held, and the entry held then
module _ (m : List (List Float)) (col row pivot : ℕ) {held : Float} {r : ℕ} (eh : held ≡ cell m pivot col)
    (er : r ≡ greater_of held (cell m row col) pivot row)
  where
    pub better_row : r ≡ better m col row pivot
    better_row = rw (er, eh)

    pub better_entry : {h : Float} → h ≡ held_of held (cell m row col) → h ≡ cell m r col
    better_entry e = rw (e, er, eh) (go (abs_of (cell m pivot col) <? abs_of (cell m row col)))
      where
        go : (t : Bool) → pick t (cell m row col) (cell m pivot col) ≡ cell m (pick t row pivot) col
        go true = refl
        go false = refl

-- a row is eliminated, and its right side follows
pub row_eliminated_lem : (n col row : ℕ) (m : List (List Float)) (b : List Float) {r : List Float}
    → r ≡ row_eliminated n (get_or m row []) (get_or m col []) (factor_of m col row) col
    → system (set m row r) (set b row (get_or b row nan ⊖ factor_of m col row ⊗ get_or b col nan)) ≡ eliminate_row n col row (system m b)
row_eliminated_lem n col row m b e = rw e

-- a part of a list up to its end, as the code takes it
pub rest_taken : {A : Type 0} (l : List A) (from : ℕ) → take (length l - from) (drop from l) ≡ drop from l
rest_taken l from = take_all _ (drop from l) (let e = length-drop from l in omega arith)

-- a product is taken off, of the entries at k behind `from`
pub product_off : (row x : List Float) (from k : ℕ) (acc : Float) {p q : Float} → p ≡ get_or (drop from row) k nan → q ≡ get_or (drop from x) k nan
    → acc ⊖ p ⊗ q ≡ less_product row x (from + k) acc
product_off row x from k acc e f = rw (e, f, get_or-drop from row k nan, get_or-drop from x k nan)

-- an entry of the solution is found
pub row_solved : (n row : ℕ) (m : List (List Float)) (b x : List Float) {acc : Float}
    → acc ≡ substituted n (get_or m row []) x (row + 1) (get_or b row nan)
    → set x row (acc ⊘ cell m row row) ≡ back_row n (system m b) row x
row_solved n row m b x e = rw e

-- a solver starts with the sum taken
pub starts : (n : ℕ) (m : List (List Float)) (b : List Float) (tol : Float) {scale : Float} → scale ≡ sum_of_magnitudes n m
    → solving n tol scale 0 (system m b) ≡ solve_of n m b tol
unfolding solve_of
starts n m b tol e = rw e

-- behind the last column nothing is left to eliminate
pub past_last : (n : ℕ) (tol scale : Float) (col : ℕ) (s : System) → n ≤ col → solving n tol scale col s ≡ solving n tol scale (col + 1) s
past_last n tol scale col s h = searched_end _ _ col n s h ∙ sym (searched_end _ _ (col + 1) n s (omega arith))

-- one column of a solver, from what its calls gave: the pivot's row, the rows and the right side swapped, and the test
module _
    (n : ℕ)
    (tol scale : Float)
    (col : ℕ)
    (m : List (List Float))
    (b : List Float)
    {rows : List (List Float)}
    {right : List Float}
    {p : ℕ}
    {t : Bool}
    {a : Solved}
    (below : col < n)
    (i : solving n tol scale col (system m b) ≡ a)
    (ep : p ≡ pivot_of n m col)
    (er : rows ≡ swap m col p)
    (es : right ≡ swap b col p)
    (et : t ≡ gives_up (cell rows col col) tol scale)
  where
    at_pivot : {u : Bool} → t ≡ u → column n tol scale col (system m b) ≡ pick u (out (singular col)) (on (eliminated_of n col (system rows right)))
    at_pivot h = rw (es, ← h, et, er, ep)

    -- the rows below are eliminated, and the next column follows
    pub goes_on : {next : List (List Float)} {side : List Float} → t ≡ false → system next side ≡ eliminated_of n col (system rows right)
        → solving n tol scale (col + 1) (system next side) ≡ a
    goes_on {next} {side} h e =
        let step : column n tol scale col (system m b) ≡ on (system next side) = rw e (at_pivot h) in
        searched_again _ _ col n below step i

    -- the solver gives up
    pub leaves : t ≡ true → singular col ≡ a
    leaves h = searched_leave _ _ col n below (at_pivot h) i
