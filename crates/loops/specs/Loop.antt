-- Loops as functions, by recursion on the iterations left, so that a definition made of them computes. Definitions only.
use Rattle.std.specs.Prelude.{Bool, true, false, ℕ, zero, suc, ◌+◌, ◌-◌}

-- a choice by a test: `if b { x } else { y }`; by clauses of its own, so that it computes as a definition does
abbrev pub pick : {A : Type 0} → Bool → A → A → A
pick true x y = x
pick false x y = y

-- `for i in i..i + k { s = f(i, s) }`
unfoldable pub iterated : {S : Type 0} → (ℕ → S → S) → ℕ → ℕ → S → S
iterated f zero i s = s
iterated f (suc k) i s = iterated f k (i + 1) (f i s)

-- `for i in a..b { s = f(i, s) }`
abbrev pub ranged : {S : Type 0} → (ℕ → S → S) → ℕ → ℕ → S → S
ranged f a b s = iterated f (b - a) a s

-- what an iteration of a loop with an early way out gives: the state to go on with, or the answer
pub data Flow (S R : Type 0) : Type 0 where
  on : S → Flow S R
  out : R → Flow S R

-- `for i in i..i + k { match f(i, s) { on(t) => s = t, out(r) => return r } } end(s)`
unfoldable pub exits : {S R : Type 0} → (ℕ → S → Flow S R) → (S → R) → ℕ → ℕ → Flow S R → R
exits f end zero i (on s) = end s
exits f end zero i (out r) = r
exits f end (suc k) i (on s) = exits f end k (i + 1) (f i s)
exits f end (suc k) i (out r) = r

-- `for i in a..b { match f(i, s) { on(t) => s = t, out(r) => return r } } end(s)`
abbrev pub searched : {S R : Type 0} → (ℕ → S → Flow S R) → (S → R) → ℕ → ℕ → Flow S R → R
searched f end a b s = exits f end (b - a) a s
