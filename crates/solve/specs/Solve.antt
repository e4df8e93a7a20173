-- The square solvers (01, "The walk", "Solving"; the Rust's math/solve.rs), over lists of any size n. Definitions only.
use Rattle.std.specs.Prelude.{◌≡◌, Bool, List, [], ℕ, ◌+◌, ◌-◌, ◌<◌, get_or, set, replicate, Float, Result, Ok, Err, MatchResult}
use Rattle.std.specs.Float.{nan}
use Rattle.std.specs.List.{swap}
use Rattle.loops.specs.Loop.{pick, ranged, Flow, on, out, searched}
use Rattle.number.specs.Operators.{◌⊕◌, ◌⊖◌, ◌⊗◌, ◌⊘◌, ◌<?◌, bits}
use Rattle.number.specs.Helpers.{abs_of, sum_start}
use Rattle.solve.specs.Cramer.{cell, gives_up}
use Rattle.solve.specs.declared.Singular.{Singular}

-- one entry's magnitude added to the sum
abbrev pub add_magnitude : List Float → ℕ → Float → Float
add_magnitude row k sum = sum ⊕ abs_of (get_or row k nan)

-- those of a row, from the first on
abbrev pub magnitudes_of : ℕ → List Float → Float → Float
magnitudes_of n row sum = ranged (add_magnitude row) 0 n sum

-- those of row i
abbrev pub add_row : ℕ → List (List Float) → ℕ → Float → Float
add_row n m i sum = magnitudes_of n (get_or m i []) sum

-- the Rust's `scale`, "the sum taken before elimination": all entries row by row, from the -0 that `sum` starts from
abbrev pub sum_of_magnitudes : ℕ → List (List Float) → Float
sum_of_magnitudes n m = ranged (add_row n m) 0 n sum_start

-- an entry displaces the one held where it is greater in magnitude: "a NaN neither displaces nor is displaced"
abbrev pub displaces : Float → Float → Bool
displaces held entry = abs_of held <? abs_of entry

-- the row that is held after it
abbrev pub greater_of : Float → Float → ℕ → ℕ → ℕ
greater_of held entry pivot row = pick (displaces held entry) row pivot

-- the entry that is held after it
abbrev pub held_of : Float → Float → Float
held_of held entry = pick (displaces held entry) entry held

-- the better of two rows in column col
abbrev pub better : List (List Float) → ℕ → ℕ → ℕ → ℕ
better m col row pivot = greater_of (cell m pivot col) (cell m row col) pivot row

-- "picks in each column the first entry of greatest magnitude", from row col down
abbrev pub pivot_of : ℕ → List (List Float) → ℕ → ℕ
pivot_of n m col = ranged (better m col) (col + 1) n col

-- `*cell -= factor * pivot_row[k]`
abbrev pub entry_reduced : List Float → Float → ℕ → List Float → List Float
entry_reduced pivot factor k row = set row k (get_or row k nan ⊖ factor ⊗ get_or pivot k nan)

-- a row less factor times the pivot's row, from column col on
abbrev pub row_eliminated : ℕ → List Float → List Float → Float → ℕ → List Float
row_eliminated n row pivot factor col = ranged (entry_reduced pivot factor) col n row

-- a matrix, and the right side beside it
pub record System : Type 0 where
  pub rows : List (List Float)
  pub right : List Float

-- the two as one
abbrev pub system : List (List Float) → List Float → System
system m b = record { rows = m; right = b }

-- `factor = m[row][col] / m[col][col]`
abbrev pub factor_of : List (List Float) → ℕ → ℕ → Float
factor_of m col row = cell m row col ⊘ cell m col col

-- a row below col, and its right side, less factor times those of the pivot
abbrev pub eliminate_row : ℕ → ℕ → ℕ → System → System
eliminate_row n col row s =
    system
    (set s.rows row (row_eliminated n (get_or s.rows row []) (get_or s.rows col []) (factor_of s.rows col row) col))
    (set s.right row (get_or s.right row nan ⊖ factor_of s.rows col row ⊗ get_or s.right col nan))

-- all rows below col, one after the other
abbrev pub eliminated_of : ℕ → ℕ → System → System
eliminated_of n col s = ranged (eliminate_row n col) (col + 1) n s

-- the pivot of column col in its place: `swap`, of the matrix's rows and of the right side
abbrev pub swapped_of : ℕ → ℕ → System → System
swapped_of n col s = system (swap s.rows col (pivot_of n s.rows col)) (swap s.right col (pivot_of n s.rows col))

-- `acc -= m[row][k] * x[k]`
abbrev pub less_product : List Float → List Float → ℕ → Float → Float
less_product row x k acc = acc ⊖ get_or row k nan ⊗ get_or x k nan

-- `acc` after the columns from `from` on
abbrev pub substituted : ℕ → List Float → List Float → ℕ → Float → Float
substituted n row x from acc = ranged (less_product row x) from n acc

-- `x[row] = acc / m[row][row]`, with `acc` from `b[row]` and the entries of x behind row
abbrev pub back_row : ℕ → System → ℕ → List Float → List Float
back_row n s row x =
    set x row (substituted n (get_or s.rows row []) x (row + 1) (get_or s.right row nan) ⊘ cell s.rows row row)

-- iteration i of `for row in (0..N).rev()`
abbrev pub back_body : ℕ → System → ℕ → List Float → List Float
back_body n s i x = back_row n s (n - 1 - i) x

-- back substitution, from `[0.0; N]`
abbrev pub back_substitution : ℕ → System → List Float
back_substitution n s = ranged (back_body n s) 0 n (replicate n (bits 0))

-- the answer of `solve_square`: the solution, or the column that had no pivot (`None`); 02, A3: "say the column, from 0, at which they did"
abbrev pub Solved : Type 0
Solved = Result (List Float) Singular

-- it gave up at this column
abbrev pub singular : ℕ → Solved
singular col = Err (record { column = col })

-- one column of `solve_square`: the only place where it gives up
abbrev pub column : ℕ → Float → Float → ℕ → System → Flow System Solved
column n tol scale col s =
    pick (gives_up (cell (swapped_of n col s).rows col col) tol scale) (out (singular col)) (on (eliminated_of n col (swapped_of n col s)))

-- the columns from col on, then back substitution
abbrev pub solving : ℕ → Float → Float → ℕ → System → Solved
solving n tol scale col s = searched (column n tol scale) (λ t. Ok (back_substitution n t)) col n (on s)

-- what one column makes of the columns from it on: the rest of them, of the rows and the right side that it leaves, or the answer
abbrev pub Advanced : ℕ → Float → Float → ℕ → System → Result (List (List Float)) Singular → List Float → Type 0
Advanced n tol scale col s r right =
    MatchResult r
    (λ m. solving n tol scale col s ≡ solving n tol scale (col + 1) (system m right))
    (λ e. solving n tol scale col s ≡ Err e)

-- `solve_square`
unfoldable pub solve_of : ℕ → List (List Float) → List Float → Float → Solved
solve_of n m b tol = solving n tol (sum_of_magnitudes n m) 0 (system m b)

-- the contract of `solve_square`: the answer, and that the column at which it gives up is one of the matrix
pub record SolvePromise (n : ℕ) (m : List (List Float)) (b : List Float) (tol : Float) (r : Solved) : Type 0 where
  pub answer : r ≡ solve_of n m b tol
  pub column : (col : ℕ) → r ≡ singular col → col < n
