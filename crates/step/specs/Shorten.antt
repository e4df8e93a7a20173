-- The stride, halved until it leads somewhere or falls below confusion. Definitions only.
use Rattle.std.specs.Prelude.{ℕ, Float, Option, Some, None}
use Rattle.loops.specs.Loop.{pick, Flow, on, out, searched}
use Rattle.number.specs.Operators.{◌⊗◌, ◌≤?◌}
use Rattle.number.specs.Helpers.{half, tenth}
use Rattle.geometry.specs.declared.tolerance.Tolerance.{Tolerance}
use Rattle.patch.specs.declared.patch.Patch.{Patch}
use Rattle.step.specs.declared.attempt.Walker.{Walker}
use Rattle.step.specs.declared.attempt.Stride.{Stride}
use Rattle.step.specs.Attempt.{attempt_of}

-- H_MAX, 0.1
abbrev pub longest_stride : Float
longest_stride = tenth

-- what an attempt at the stride h says
abbrev pub after_attempt : Float → Option Stride → Flow Float (Option Stride)
after_attempt h (Some stride) = out (Some stride)
after_attempt h None = on (h ⊗ half)

-- the test and the body of `while h >= tol.confusion`
abbrev pub stride_body : Patch → Patch → Tolerance → Float → Walker → ℕ → Float → Flow Float (Option Stride)
stride_body a b tol dir w i h = pick (tol.confusion ≤? h) (after_attempt h (attempt_of a b tol dir w h)) (out None)

-- the iterations are spent
abbrev pub no_stride : Float → Option Stride
no_stride h = None

-- the iterations i to n - 1
abbrev pub halvings : Patch → Patch → Tolerance → Float → Walker → ℕ → ℕ → Float → Option Stride
halvings a b tol dir w i n h = searched (stride_body a b tol dir w) no_stride i n (on h)

-- from 0.1 a stride is below 2^-40, and so below every fit confusion, after 37 halvings: `enough` says that more give the same
abbrev pub most_halvings : ℕ
most_halvings = 37

-- `while h >= tol.confusion`, from the stride h
unfoldable pub stride_of : Patch → Patch → Tolerance → Float → Walker → Float → Option Stride
stride_of a b tol dir w h = halvings a b tol dir w 0 most_halvings h
