-- What the solver of two unknowns answers by its test.
use mathlib.Core.Path.{◌≡◌}
use mathlib.Core.List.{List}
use mathlib.Core.Bool.{Bool}
use lib.Ieee.{Float}
use Rattle.std.specs.Prelude.{Some, None}
use Rattle.loops.specs.Loop.{pick}
use Rattle.solve.specs.Cramer.{gives_up, determinant_of, scale2_of, cramer_of, solve2_of}

-- what `solve_2x2` answers by its test
pub at_determinant : (a : List (List Float)) (b : List Float) (tol : Float) {det scale : Float} {t u : Bool}
    → det ≡ determinant_of a → scale ≡ scale2_of a → t ≡ gives_up det tol scale → t ≡ u
    → pick u None (Some (cramer_of a b det)) ≡ solve2_of a b tol
unfolding solve2_of
at_determinant a b tol ed es et eu = rw (← eu, et, es, ed)
