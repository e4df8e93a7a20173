-- What holds of every number of a list, and lists whose numbers are binary64.
use mathlib.Core.List.{List, [], ◌∷◌}
use Prim.Native.Nat.{ℕ, zero, suc, ◌<◌}
use native.Mathlib.Omega.{arith}
use lib.Dec.{T}
use lib.ListN.{length, get_or, take}
use lib.Ieee.{Float, nan, binary64, fits}

-- one by one
abbrev pub AllOf : (Float → Type 0) → List Float → Type 0
AllOf P [] = Unit {0}
AllOf P (x ∷ l) = P x × AllOf P l

pub all_at : (P : Float → Type 0) (l : List Float) → AllOf P l → (k : ℕ) → k < length l → P (get_or l k nan)
all_at P [] a k h = absurd (omega arith)
all_at P (x ∷ l) a zero h = a.0
all_at P (x ∷ l) a (suc k) h = all_at P l a.1 k (omega arith)

abbrev pub AllFit : List Float → Type 0
AllFit l = AllOf (λ (x : Float). T (fits binary64 x)) l

-- so are those of every list that a program lends
abbrev pub Binary64 : List Float → Type 0
Binary64 l = (k : ℕ) → T (fits binary64 (get_or l k nan))

-- those at the head of such a list
pub take_fits : (n : ℕ) (l : List Float) → Binary64 l → AllFit (take n l)
take_fits zero l b = tt
take_fits (suc n) [] b = tt
take_fits (suc n) (x ∷ l) b = (b 0, take_fits n l (λ k. b (suc k)))
