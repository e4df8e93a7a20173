-- What a lent list holds after other values were put into it. Definitions only.
use Rattle.std.specs.Prelude.{List, ◌++◌, ℕ, ◌+◌, length, take, drop}

-- a list with `vs` over what stood from index `at` on
abbrev pub over : {A : Type 0} → List A → ℕ → List A → List A
over l at vs = take at l ++ vs ++ drop (at + length vs) l

-- a list with `vs` over what stood at its front
unfoldable pub written : {A : Type 0} → List A → List A → List A
written vs l = vs ++ drop (length vs) l
