-- Numbers of two halves, for any reader, writer and base: what was put down of each half is read, and what was read of each is put down again.
use mathlib.Core.Path.{◌≡◌, sym, ap, ◌∙◌}
use mathlib.Core.List.{List, ◌++◌, append_assoc}
use Prim.Native.Nat.{ℕ, ◌+◌, ◌*◌, ◌/◌, ◌%◌, ◌≤◌, ◌<◌}
use native.Mathlib.Nat.{div-add-mod'}
use native.Mathlib.Omega.{arith}
use lib.Arith.{digits_lt, digits_div, digits_mod}
use lib.ListN.{length, take, drop}
use lib.Seq.{drop-drop, take-add}
use Rattle.wire.specs.Wire.{AllBytes}
use Rattle.wire.proofs.Laws.{behind}

-- `get` reads what `put` puts down
abbrev pub Back : (List ℕ → ℕ → ℕ) → (ℕ → List ℕ) → Type 0
Back get put = (s q : List ℕ) (at x : ℕ) → drop at s ≡ put x ++ q → get s at ≡ x

-- of two halves, n bytes each, the first weighing b
pub back_halves : (get : List ℕ → ℕ → ℕ) (put : ℕ → List ℕ) (n b : ℕ) → ((x : ℕ) → length (put x) ≡ n) → Back get put
    → Back (λ s at. get s at * b + get s (at + n)) (λ x. put (x / b) ++ put (x % b))
back_halves get put n b size back s q at x e =
    let f = e ∙ append_assoc (put (x / b)) (put (x % b)) q in
    let high = back s (put (x % b) ++ q) at (x / b) f in
    let low = back s q (at + n) (x % b) (behind s at n (put (x / b)) (put (x % b) ++ q) f (size (x / b))) in
    rw (high, low) (div-add-mod' x b)

-- a number of n bytes is below b
abbrev pub Below : (List ℕ → ℕ → ℕ) → ℕ → Type 0
Below get b = (s : List ℕ) (at : ℕ) → AllBytes s → get s at < b

-- `put` puts down again what `get` read
abbrev pub Again : (List ℕ → ℕ → ℕ) → (ℕ → List ℕ) → ℕ → Type 0
Again get put n = (s : List ℕ) (at : ℕ) → AllBytes s → at + n ≤ length s → put (get s at) ≡ take n (drop at s)

module _ (get : List ℕ → ℕ → ℕ) (put : ℕ → List ℕ) (n b : ℕ) (below : Below get b) where
  pub below_halves : Below (λ s at. get s at * b + get s (at + n)) (b * b)
  below_halves s at d = digits_lt (below s at d) (below s (at + n) d)

  pub again_halves : Again get put n → Again (λ s at. get s at * b + get s (at + n)) (λ x. put (x / b) ++ put (x % b)) (n + n)
  again_halves again s at d h =
      let low = below s (at + n) d in
      rw (digits_div (get s at) low, digits_mod (get s at) low, again s at d (omega arith), again s (at + n) d (omega arith), take-add, drop-drop)
