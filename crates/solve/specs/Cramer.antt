-- The solver of two unknowns, and when a solver gives up (01, "The walk", "Solving"; the Rust's math/solve.rs). Definitions only.
use Rattle.std.specs.Prelude.{List, [], ◌∷◌, Bool, ℕ, get_or, Float, Option, Some, None}
use Rattle.std.specs.Float.{nan}
use Rattle.loops.specs.Loop.{pick}
use Rattle.number.specs.Operators.{◌⊕◌, ◌⊖◌, ◌⊗◌, ◌⊘◌, ◌≤?◌, bits}
use Rattle.number.specs.Helpers.{min_positive, abs_of, max_of}

-- "tol is 1e-12 throughout": the walk's solves; the solvers take any
abbrev pub solver_tol : Float
solver_tol = bits 0x3D71_9799_812D_EA11

-- the entry in row r and column c
abbrev pub cell : List (List Float) → ℕ → ℕ → Float
cell m r c = get_or (get_or m r []) c nan

-- "gives up when it is at most tol times max(sum of magnitudes, smallest normal)"; a NaN is not at most
abbrev pub gives_up : Float → Float → Float → Bool
gives_up pivot tol scale = abs_of pivot ≤? tol ⊗ max_of scale min_positive

-- the Rust's `det`
abbrev pub determinant_of : List (List Float) → Float
determinant_of a = cell a 0 0 ⊗ cell a 1 1 ⊖ cell a 0 1 ⊗ cell a 1 0

-- the Rust's `scale` in `solve_2x2`
abbrev pub scale2_of : List (List Float) → Float
scale2_of a = abs_of (cell a 0 0) ⊗ abs_of (cell a 1 1) ⊕ abs_of (cell a 0 1) ⊗ abs_of (cell a 1 0)

-- the solution by Cramer's rule
abbrev pub cramer_of : List (List Float) → List Float → Float → List Float
cramer_of a b det =
    (get_or b 0 nan ⊗ cell a 1 1 ⊖ get_or b 1 nan ⊗ cell a 0 1) ⊘ det
    ∷ (cell a 0 0 ⊗ get_or b 1 nan ⊖ cell a 1 0 ⊗ get_or b 0 nan) ⊘ det
    ∷ []

-- `solve_2x2`: "has its own test", of the determinant
unfoldable pub solve2_of : List (List Float) → List Float → Float → Option (List Float)
solve2_of a b tol = pick (gives_up (determinant_of a) tol (scale2_of a)) None (Some (cramer_of a b (determinant_of a)))
