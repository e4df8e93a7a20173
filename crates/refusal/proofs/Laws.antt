-- No refusal has the number 0, which stands for none, and each number is a byte. 9 and 21 are told by their numbers; no other has a round, and 21 alone a column.
use mathlib.Core.Path.{◌≡◌, refl, ap}
use mathlib.Core.Bool.{false}
use mathlib.Core.Logic.{◌⊎◌, inl, inr, ⊎_elim}
use Prim.Native.Nat.{ℕ, ◌≤◌}
use native.Mathlib.Omega.{arith}
use borrow.Author.Tests.{ne_eqb}
use lib.Dec.{eqb}
use Rattle.refusal.specs.declared.Refusal.{Refusal}
use Rattle.refusal.specs.declared.Refusal.TheVariants.{Number, Size, Window, TurnMark, Tolerance, Parameter, StepCap, Lent, NoMeeting, Singular, NoDirection, TooShort}
use Rattle.refusal.specs.declared.Refusal.TheVariants.{Claim, NotOwnPoint, OutsideWindow, Gap, Chord, BoxNumber, Coordinate, JobFile, TraceFile}
use Rattle.refusal.specs.Refusal.{number_of, round_of, column_of}

number_byte : (r : Refusal) → (1 ≤ number_of r) × (number_of r ≤ 255)
number_byte Number = (omega arith, omega arith)
number_byte Size = (omega arith, omega arith)
number_byte Window = (omega arith, omega arith)
number_byte TurnMark = (omega arith, omega arith)
number_byte Tolerance = (omega arith, omega arith)
number_byte Parameter = (omega arith, omega arith)
number_byte StepCap = (omega arith, omega arith)
number_byte Lent = (omega arith, omega arith)
number_byte (NoMeeting i) = (omega arith, omega arith)
number_byte (Singular i col) = (omega arith, omega arith)
number_byte NoDirection = (omega arith, omega arith)
number_byte TooShort = (omega arith, omega arith)
number_byte Claim = (omega arith, omega arith)
number_byte (NotOwnPoint i) = (omega arith, omega arith)
number_byte (OutsideWindow i) = (omega arith, omega arith)
number_byte (Gap i) = (omega arith, omega arith)
number_byte (Chord i) = (omega arith, omega arith)
number_byte BoxNumber = (omega arith, omega arith)
number_byte Coordinate = (omega arith, omega arith)
number_byte JobFile = (omega arith, omega arith)
number_byte TraceFile = (omega arith, omega arith)

pub number_positive : (r : Refusal) → 1 ≤ number_of r
number_positive r = (number_byte r).0

pub number_small : (r : Refusal) → number_of r ≤ 255
number_small r = (number_byte r).1

pub number_not_0 : (r : Refusal) → eqb (number_of r) 0 ≡ false
number_not_0 r = ne_eqb (number_of r) 0 (λ e. let h = number_positive r in omega (arith, h, e))

-- ---- the Newton round and the column

-- neither 9 nor 21
abbrev pub Elsewhere : Refusal → Type 0
Elsewhere r = (round_of r ≡ 0) × (column_of r ≡ 0) × (number_of r ≡ 9 → ⊥) × (number_of r ≡ 21 → ⊥)

pub which : (r : Refusal) → (r ≡ NoMeeting (round_of r)) ⊎ ((r ≡ Singular (round_of r) (column_of r)) ⊎ Elsewhere r)
which Number = inr (inr (refl, refl, λ e. omega (arith, e), λ e. omega (arith, e)))
which Size = inr (inr (refl, refl, λ e. omega (arith, e), λ e. omega (arith, e)))
which Window = inr (inr (refl, refl, λ e. omega (arith, e), λ e. omega (arith, e)))
which TurnMark = inr (inr (refl, refl, λ e. omega (arith, e), λ e. omega (arith, e)))
which Tolerance = inr (inr (refl, refl, λ e. omega (arith, e), λ e. omega (arith, e)))
which Parameter = inr (inr (refl, refl, λ e. omega (arith, e), λ e. omega (arith, e)))
which StepCap = inr (inr (refl, refl, λ e. omega (arith, e), λ e. omega (arith, e)))
which Lent = inr (inr (refl, refl, λ e. omega (arith, e), λ e. omega (arith, e)))
which (NoMeeting i) = inl refl
which (Singular i col) = inr (inl refl)
which NoDirection = inr (inr (refl, refl, λ e. omega (arith, e), λ e. omega (arith, e)))
which TooShort = inr (inr (refl, refl, λ e. omega (arith, e), λ e. omega (arith, e)))
which Claim = inr (inr (refl, refl, λ e. omega (arith, e), λ e. omega (arith, e)))
which (NotOwnPoint i) = inr (inr (refl, refl, λ e. omega (arith, e), λ e. omega (arith, e)))
which (OutsideWindow i) = inr (inr (refl, refl, λ e. omega (arith, e), λ e. omega (arith, e)))
which (Gap i) = inr (inr (refl, refl, λ e. omega (arith, e), λ e. omega (arith, e)))
which (Chord i) = inr (inr (refl, refl, λ e. omega (arith, e), λ e. omega (arith, e)))
which BoxNumber = inr (inr (refl, refl, λ e. omega (arith, e), λ e. omega (arith, e)))
which Coordinate = inr (inr (refl, refl, λ e. omega (arith, e), λ e. omega (arith, e)))
which JobFile = inr (inr (refl, refl, λ e. omega (arith, e), λ e. omega (arith, e)))
which TraceFile = inr (inr (refl, refl, λ e. omega (arith, e), λ e. omega (arith, e)))

module _ (r : Refusal) (i : ℕ) where
  pub told_unmet : number_of r ≡ number_of (NoMeeting i) → r ≡ NoMeeting (round_of r)
  told_unmet e =
      ⊎_elim (λ (h : r ≡ NoMeeting (round_of r)). h)
      (λ h. absurd (⊎_elim (λ (f : r ≡ Singular (round_of r) (column_of r)). let z = ap number_of f in omega (arith, e, z)) (λ (f : Elsewhere r). f.2 e) h)) (which r)

  pub told_singular : (col : ℕ) → number_of r ≡ number_of (Singular i col) → r ≡ Singular (round_of r) (column_of r)
  told_singular col e =
      ⊎_elim (λ (h : r ≡ NoMeeting (round_of r)). absurd (let z = ap number_of h in omega (arith, e, z)))
      (λ h. ⊎_elim (λ (f : r ≡ Singular (round_of r) (column_of r)). f) (λ (f : Elsewhere r). absurd (f.3 e)) h) (which r)
