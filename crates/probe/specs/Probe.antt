-- What a probe answers and writes. Definitions only.
use Rattle.std.specs.Prelude.{List, [], ◌∷◌, ℕ, zero, suc, ◌+◌, ◌*◌, eqb, ltb, length, get_or, Float, Option, Some, None, Ok, Err}
use Rattle.std.specs.Float.{nan}
use Rattle.loops.specs.Loop.{pick}
use Rattle.loops.specs.Over.{written}
use Rattle.solve.specs.Cramer.{solve2_of}
use Rattle.solve.specs.Solve.{Solved, solve_of}

-- n numbers of the input, from at on
abbrev pub numbers_from : ℕ → ℕ → List Float → List Float
numbers_from zero at s = []
numbers_from (suc n) at s = get_or s at nan ∷ numbers_from n (at + 1) s

-- k rows of n numbers, from at on
abbrev pub matrix_from : ℕ → ℕ → ℕ → List Float → List (List Float)
matrix_from zero n at s = []
matrix_from (suc k) n at s = numbers_from n at s ∷ matrix_from k n (at + n) s

-- the answer's word, and the output afterwards
pub record Probed : Type 0 where
  pub word : ℕ
  pub output : List Float

-- the two as one
abbrev pub probed : ℕ → List Float → Probed
probed w out = record { word = w; output = out }

-- 9 for slices too short: fewer than these numbers in, or these out
abbrev pub or_short : ℕ → ℕ → List Float → List Float → Probed → Probed
or_short least room s t p = pick (ltb (length s) least) (probed 9 t) (pick (ltb (length t) room) (probed 9 t) p)

-- 1 and the two unknowns at the output's front, or 0
abbrev pub written2 : Option (List Float) → List Float → Probed
written2 (Some x) t = probed 1 (written x t)
written2 None t = probed 0 t

-- `solve_2x2` of four numbers by rows, two on the right side, tol
unfoldable pub probe2_of : List Float → List Float → Probed
probe2_of s t = or_short 7 2 s t (written2 (solve2_of (matrix_from 2 2 0 s) (numbers_from 2 4 s) (get_or s 6 nan)) t)

-- 1 and the unknowns at the output's front, or 2^8 times the column
abbrev pub written_square : Solved → List Float → Probed
written_square (Ok x) t = probed 1 (written x t)
written_square (Err e) t = probed (e.column * 256) t

-- `solve_square` of n unknowns, likewise
unfoldable pub probe_square_of : ℕ → List Float → List Float → Probed
probe_square_of n s t =
    or_short (n * n + n + 1) n s t
    (written_square (solve_of n (matrix_from n n 0 s) (numbers_from n (n * n) s) (get_or s (n * n + n) nan)) t)

-- by the number of unknowns; 9 where no solver has so many
unfoldable pub probe_of : ℕ → List Float → List Float → Probed
probe_of n s t =
    pick (eqb n 2) (probe2_of s t) (pick (eqb n 3) (probe_square_of 3 s t) (pick (eqb n 4) (probe_square_of 4 s t) (probed 9 t)))
