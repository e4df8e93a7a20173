-- A4: the formula names the three parameters beside the pin, rising, and is what the table of four rows was.
use mathlib.Core.Path.{◌≡◌, refl, ◌∙◌}
use mathlib.Core.Bool.{Bool, true, false, not}
use mathlib.Core.Logic.{◌⊎◌, inl, inr, ⊎_elim}
use Prim.Native.Nat.{ℕ, zero, suc, ◌+◌, ◌-◌, ◌≤◌, ◌<◌}
use native.Mathlib.Omega.{arith}
use borrow.Author.Tests.{le-ltb, lt-ltb}
use lib.Dec.{T, ltb, ltb→lt, nltb→le}
use Rattle.std.specs.Prelude.{List, [], ◌∷◌, get_or}
use Rattle.loops.specs.Loop.{pick}
use Rattle.meeting.specs.Correction.{free_at, NamesOthers}

module _ (pin : ℕ) (free : ℕ → ℕ) (each : (i : ℕ) → i < 3 → free i ≡ free_at pin i) where
  -- i below the pin, or i + 1 from the pin on
  abbrev Formula : ℕ → ℕ → Type 0
  Formula i k = ((i < pin) × (k ≡ i)) ⊎ ((pin ≤ i) × (k ≡ i + 1))

  formula : (i : ℕ) → Formula i (free_at pin i)
  unfolding free_at
  formula i = go (ltb i pin) (ltb→lt i pin) (nltb→le i pin)
    where
      go : (t : Bool) → (T t → i < pin) → (T (not t) → pin ≤ i) → Formula i (pick t i (i + 1))
      go true f g = inl (f tt, refl)
      go false f g = inr (g tt, refl)

  free_is : (i : ℕ) → i < 3 → Formula i (free i)
  free_is i h = ⊎_elim (λ p. inl (p.0, each i h ∙ p.1)) (λ p. inr (p.0, each i h ∙ p.1)) (formula i)

  -- k itself where it is below the pin, else the one before it
  every : pin ≤ 3 → (k : ℕ) → k ≤ 3 → (k ≡ pin → ⊥) → (i : ℕ) × (i < 3) × (free i ≡ k)
  every h k m n = go (ltb k pin) (ltb→lt k pin) (nltb→le k pin)
    where
      go : (t : Bool) → (T t → k < pin) → (T (not t) → pin ≤ k) → (i : ℕ) × (i < 3) × (free i ≡ k)
      go true f g = let p = f tt in let s : k < 3 = omega arith in (k, s, grind (arith, free_is k s))
      go false f g = let p = g tt in let s : k - 1 < 3 = omega arith in (k - 1, s, grind (arith, free_is (k - 1) s))

  pub names_others : NamesOthers pin free
  names_others = record {
    rising = λ i j h k. let s : i < 3 = omega arith in grind (arith, free_is i s, free_is j k);
    others = λ i h e. grind (arith, free_is i h);
    within = λ i h. ⊎_elim (λ p. omega arith) (λ p. omega arith) (free_is i h);
    every = every;
  }

pub formula_names_others : (pin : ℕ) → NamesOthers pin (free_at pin)
formula_names_others pin = names_others pin (free_at pin) (λ i h. refl)

-- what the landing had: four rows of three, of which a pin above 3 took the last
abbrev rows_before : List (List ℕ)
rows_before = (1 ∷ 2 ∷ 3 ∷ []) ∷ (0 ∷ 2 ∷ 3 ∷ []) ∷ (0 ∷ 1 ∷ 3 ∷ []) ∷ (0 ∷ 1 ∷ 2 ∷ []) ∷ []

abbrev free_before : ℕ → ℕ → ℕ
free_before pin i = get_or (get_or rows_before (pick (ltb pin 3) pin 3) []) i 0

-- for every pin, one above 3 too, nothing changed
pub as_before : (pin i : ℕ) → i < 3 → free_at pin i ≡ free_before pin i
unfolding free_at
as_before zero zero h = refl
as_before zero (suc zero) h = refl
as_before zero (suc (suc zero)) h = refl
as_before (suc zero) zero h = refl
as_before (suc zero) (suc zero) h = refl
as_before (suc zero) (suc (suc zero)) h = refl
as_before (suc (suc zero)) zero h = refl
as_before (suc (suc zero)) (suc zero) h = refl
as_before (suc (suc zero)) (suc (suc zero)) h = refl
as_before (suc (suc (suc pin))) i h = rw (lt-ltb i (suc (suc (suc pin))) (omega arith), le-ltb (suc (suc (suc pin))) 3 (omega arith)) (last i h)
  where
    last : (i : ℕ) → i < 3 → i ≡ get_or (0 ∷ 1 ∷ 2 ∷ []) i 0
    last zero h = refl
    last (suc zero) h = refl
    last (suc (suc zero)) h = refl
    last (suc (suc (suc i))) h = absurd (omega arith)
as_before pin (suc (suc (suc i))) h = absurd (omega arith)
