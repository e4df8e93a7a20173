-- Lists whose neighbours are related, and lists all of whose elements have a property.
use mathlib.Core.Path.{subst}
use mathlib.Core.List.{List, [], ◌∷◌, ◌++◌, reverse, reverse_aux, reverse-append}
use mathlib.Core.Bool.{true}
use Prim.Native.Nat.{ℕ, zero, suc, ◌<◌}
use native.Mathlib.Omega.{arith}
use lib.Dec.{T}
use lib.ListN.{length, get_or}
use Rattle.std.specs.List.{All}
use Rattle.std.proofs.lemmas.List.Elements.{All-cons, All-head, All-tail}

-- ---- a property of every element

pub all_reversed : {A : Type 0} (G : A → Type 0) (l r : List A) → All G l → All G r → All G (reverse_aux l r)
all_reversed G [] r p q = q
all_reversed G (y ∷ l) r p q = all_reversed G l (y ∷ r) (All-tail G y l p) (All-cons G y r (All-head G y l p) q)

-- ---- a relation of all neighbours

module _ {A : Type 0} (R : A → A → Type 0) where
  abbrev pub Linked : List A → Type 0
  Linked [] = T true
  Linked (y ∷ []) = T true
  Linked (y ∷ z ∷ l) = R y z × Linked (z ∷ l)

  -- the first element, or the one that stands behind the list
  abbrev pub first_or : A → List A → A
  first_or x [] = x
  first_or x (y ∷ l) = y

  pub linked_front : (y x : A) (l : List A) → R y (first_or x l) → Linked (l ++ (x ∷ [])) → Linked (y ∷ (l ++ (x ∷ [])))
  linked_front y x [] r p = (r, tt)
  linked_front y x (z ∷ l) r p = (r, p)

  pub linked_rest : (y x : A) (l : List A) → Linked (y ∷ (l ++ (x ∷ []))) → Linked (l ++ (x ∷ []))
  linked_rest y x [] p = tt
  linked_rest y x (z ∷ l) p = p.1

  pub linked_join : (l : List A) (x : A) (r : List A) → Linked (l ++ (x ∷ [])) → Linked (x ∷ r) → Linked (l ++ (x ∷ r))
  linked_join [] x r p q = q
  linked_join (y ∷ []) x r p q = (p.0, q)
  linked_join (y ∷ z ∷ l) x r p q = (p.0, linked_join (z ∷ l) x r p.1 q)

  pub linked_at : (l : List A) (d : A) (i : ℕ) → suc i < length l → Linked l → R (get_or l i d) (get_or l (suc i) d)
  linked_at [] d i h p = absurd (let e : ⊥ = omega arith in e)
  linked_at (y ∷ []) d i h p = absurd (let e : ⊥ = omega arith in e)
  linked_at (y ∷ z ∷ l) d zero h p = p.0
  linked_at (y ∷ z ∷ l) d (suc i) h p = linked_at (z ∷ l) d i (omega arith) p.1

  -- where the relation goes both ways the reversed list is linked
  module _ (swap : (y z : A) → R y z → R z y) where
    reversed_onto : (l r : List A) (y : A) → Linked (y ∷ l) → Linked (y ∷ r) → Linked (reverse_aux l (y ∷ r))
    reversed_onto [] r y p q = q
    reversed_onto (z ∷ l) r y p q = reversed_onto l (y ∷ r) z p.1 (swap y z p.0, q)

    all_round : (l : List A) → Linked l → Linked (reverse l)
    all_round [] p = tt
    all_round (y ∷ l) p = reversed_onto l [] y p tt

    pub linked_reversed : (x : A) (l : List A) → Linked (l ++ (x ∷ [])) → Linked (x ∷ reverse l)
    linked_reversed x l p = subst Linked (reverse-append l (x ∷ [])) (all_round (l ++ (x ∷ [])) p)
