-- The entries of a list after a write.
use mathlib.Core.Logic.{⊎_elim}
use mathlib.Core.Path.{◌≡◌, sym, subst}
use mathlib.Core.List.{List}
use Prim.Native.Nat.{ℕ, ◌+◌, ◌<◌}
use native.Mathlib.Omega.{arith}
use borrow.Author.Count.{below_more}
use lib.ListN.{length, get_or, set}
use lib.Seq.{get_or-set_same, get_or-set_other}
use Rattle.std.proofs.lemmas.Bool.{cases_eq}

module _ {A : Type 0} (l : List A) (i : ℕ) (v d : A) (h : i < length l) where
  -- an entry is the one that was written, or an older one
  pub entry_set : (P : A → Type 0) (j : ℕ) → P v → ((j ≡ i → ⊥) → P (get_or l j d)) → P (get_or (set l i v) j d)
  entry_set P j p q =
      ⊎_elim
      (λ e. subst (λ (n : ℕ). P (get_or (set l i v) n d)) (sym e) (subst P (sym (get_or-set_same l i v d h)) p))
      (λ n. subst P (sym (get_or-set_other l i j v d n)) (q n))
      (cases_eq j i)

  -- a write behind the first i entries: what they have, and the one that was written, the first i + 1 have
  pub entries_set : (P : ℕ → A → Type 0) → ((j : ℕ) → j < i → P j (get_or l j d)) → P i v → (j : ℕ) → j < i + 1 → P j (get_or (set l i v) j d)
  entries_set P f p =
      below_more (λ j. P j (get_or (set l i v) j d)) i
      (λ j k. subst (P j) (sym (get_or-set_other l i j v d (λ e. absurd (let x = e in omega arith)))) (f j k))
      (subst (P i) (sym (get_or-set_same l i v d h)) p)
