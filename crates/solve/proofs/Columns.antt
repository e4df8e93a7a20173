-- The column at which a solver gives up is one of the matrix, and what follows of its answer.
use mathlib.Core.Path.{◌≡◌, subst}
use mathlib.Core.List.{List}
use mathlib.Core.Bool.{Bool, true, false}
use Prim.Native.Nat.{ℕ, ◌<◌}
use native.Mathlib.Omega.{arith}
use lib.Ieee.{Float}
use Rattle.std.specs.Prelude.{Ok, Err}
use Rattle.loops.specs.Loop.{pick, Flow, on, out}
use Rattle.loops.proofs.Loop.{Kept, searched_keeps_at}
use Rattle.solve.specs.Cramer.{cell, gives_up}
use Rattle.solve.specs.Solve.{System, system, sum_of_magnitudes, swapped_of, eliminated_of, back_substitution, Solved, singular, column, solve_of, SolvePromise}

abbrev Within : ℕ → Solved → Type 0
Within n (Ok x) = Unit {0}
Within n (Err e) = e.column < n

module _ (n : ℕ) (m : List (List Float)) (b : List Float) (tol : Float) where
  solve_within : Within n (solve_of n m b tol)
  unfolding solve_of
  solve_within =
      searched_keeps_at (column n tol scale) (λ t. Ok (back_substitution n t)) (λ i s. Unit {0}) (Within n) 0 n body (λ s p. tt) (omega arith) (system m b) tt
    where
      scale : Float
      scale = sum_of_magnitudes n m

      Told : Flow System Solved → Type 0
      Told = Kept (λ (s : System). Unit {0}) (Within n)

      body : (i : ℕ) (s : System) → i < n → Unit {0} → Told (column n tol scale i s)
      body i s h p = go (gives_up (cell (swapped_of n i s).rows i i) tol scale)
        where
          go : (t : Bool) → Told (pick t (out (singular i)) (on (eliminated_of n i (swapped_of n i s))))
          go true = h
          go false = tt

  -- whatever holds of a solution and of each column holds of the answer
  pub solve_each : (P : Solved → Type 0) → ((x : List Float) → P (Ok x)) → ((col : ℕ) → col < n → P (singular col)) → P (solve_of n m b tol)
  solve_each P by-solution by-column = go (solve_of n m b tol) solve_within
    where
      go : (r : Solved) → Within n r → P r
      go (Ok x) h = by-solution x
      go (Err e) h = by-column e.column h

  pub promised : {r : Solved} → r ≡ solve_of n m b tol → SolvePromise n m b tol r
  promised e = record { answer = e; column = λ col f. subst (Within n) f (rw e solve_within) }
