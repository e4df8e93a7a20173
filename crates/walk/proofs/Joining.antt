-- Both halves in one list, the backward one reversed: the whole reversed, then the start and the forward half again.
use mathlib.Core.Path.{◌≡◌, ap, sym, ◌∙◌}
use mathlib.Core.List.{List, ◌++◌, append_assoc}
use Prim.Native.Nat.{ℕ, ◌+◌, ◌*◌, ◌-◌, ◌/◌, ◌≤◌}
use native.Mathlib.Omega.{arith}
use lib.Ieee.{Float}
use lib.ListN.{length, take, drop, length-append, length-drop}
use lib.Seq.{take_at, drop_at, length-take-le, take-add}
use Rattle.groups.specs.Groups.{width}
use Rattle.walk.specs.Lent.{reversed_of, joined_of}
use Rattle.walk.proofs.Reversal.{length_reversed, reversed_append, reversed_twice}

-- a part between two places, as it comes back
abbrev pub back_at : ℕ → ℕ → List Float → List Float → List Float
back_at from to l part = take from l ++ (part ++ drop (to - from) (drop from l))

module _ (f b : ℕ) (l : List Float) (h : width * (1 + f + b) ≤ length l) where
  S : List Float
  S = take (width * (1 + f)) l

  B : List Float
  B = take (width * b) (drop (width * (1 + f)) l)

  R : List Float
  R = drop (width * (1 + f + b)) l

  TB : List Float
  TB = reversed_of b B

  TS : List Float
  TS = reversed_of (1 + f) S

  l_s : length S ≡ width * (1 + f)
  unfolding S
  l_s = length-take-le (width * (1 + f)) l (omega (arith, h))

  l_b : length B ≡ width * b
  unfolding B
  l_b = let d = length-drop (width * (1 + f)) l in length-take-le (width * b) (drop (width * (1 + f)) l) (omega (arith, d, h))

  l_t_b : length TB ≡ width * b
  unfolding TB
  l_t_b = length_reversed b B l_b

  l_t_s : length TS ≡ width * (1 + f)
  unfolding TS
  l_t_s = length_reversed (1 + f) S l_s

  used : take (width * (1 + f + b)) l ≡ S ++ B
  unfolding S B
  used = ap (λ (k : ℕ). take k l) (let e : width * (1 + f + b) ≡ width * (1 + f) + width * b = omega arith in e) ∙ take-add (width * (1 + f)) (width * b) l

  -- the whole reversed
  first : reversed_of (1 + f + b) (take (width * (1 + f + b)) l) ≡ TB ++ TS
  unfolding TB TS
  first = ap (reversed_of (1 + f + b)) used ∙ reversed_append (1 + f) b S B l_s

  l₁ : List Float
  l₁ = reversed_of (1 + f + b) (take (width * (1 + f + b)) l) ++ drop (width * (1 + f + b)) l

  l₁_is : l₁ ≡ TB ++ (TS ++ R)
  unfolding l₁ R
  l₁_is = ap (λ (z : List Float). z ++ drop (width * (1 + f + b)) l) first ∙ append_assoc TB TS (drop (width * (1 + f + b)) l)

  behind_is : drop (width * b) l₁ ≡ TS ++ R
  behind_is = ap (drop (width * b)) l₁_is ∙ drop_at TB (TS ++ R) (width * b) l_t_b

  span : width * (1 + f + b) - width * b ≡ width * (1 + f)
  span = omega arith

  middle_is : take (width * (1 + f + b) - width * b) (drop (width * b) l₁) ≡ TS
  middle_is = ap (λ (k : ℕ). take k (drop (width * b) l₁)) span ∙ ap (take (width * (1 + f))) behind_is ∙ take_at TS R (width * (1 + f)) l_t_s

  -- what lies behind the backward half
  abbrev middle : List Float → List Float
  middle p = take (width * (1 + f + b) - width * b) (drop (width * b) (p ++ drop (width * (1 + f + b)) l))

  -- the lengths, for the calls
  pub joined_first : length (take (width * (1 + f + b)) l) ≡ width * (1 + f + b)
  joined_first = length-take-le (width * (1 + f + b)) l h

  module _ {p : List Float} (ep : p ≡ reversed_of (length (take (width * (1 + f + b)) l) / width) (take (width * (1 + f + b)) l)) where
    whole_is : p ≡ reversed_of (1 + f + b) (take (width * (1 + f + b)) l)
    whole_is = ep ∙ ap (λ (k : ℕ). reversed_of k (take (width * (1 + f + b)) l)) (let e = joined_first in let g : length (take (width * (1 + f + b)) l) / width ≡ 1 + f + b = omega arith in g)

    second_is : middle p ≡ TS
    unfolding l₁
    second_is = ap middle whole_is ∙ middle_is

    pub joined_second : length (middle p) ≡ width * (1 + f)
    joined_second = ap length second_is ∙ l_t_s

    -- and then the start and the forward half again
    pub joined : {q : List Float} → q ≡ reversed_of (length (middle p) / width) (middle p)
        → back_at (width * b) (width * (1 + f + b)) (p ++ drop (width * (1 + f + b)) l) q ≡ joined_of f b l
    unfolding l₁ joined_of S B R TB TS
    joined {q} eq =
        ap (λ (z : List Float). back_at (width * b) (width * (1 + f + b)) (z ++ drop (width * (1 + f + b)) l) q) whole_is
        ∙ ap (back_at (width * b) (width * (1 + f + b)) l₁)
        (eq ∙ ap (λ (k : ℕ). reversed_of k (middle p)) (let e = joined_second in let g : length (middle p) / width ≡ 1 + f = omega arith in g)
        ∙ ap (reversed_of (1 + f)) second_is ∙ reversed_twice (1 + f) S l_s)
        ∙ ap (λ (z : List Float). z ++ (S ++ drop (width * (1 + f + b) - width * b) (drop (width * b) l₁))) (ap (take (width * b)) l₁_is ∙ take_at TB (TS ++ R) (width * b) l_t_b)
        ∙ ap (λ (z : List Float). TB ++ (S ++ z)) (ap (λ (k : ℕ). drop k (drop (width * b) l₁)) span ∙ ap (drop (width * (1 + f))) behind_is ∙ drop_at TS R (width * (1 + f)) l_t_s)

  -- what it begins with
  pub joined_front : {xs ys : List Float} → take (width * b) (drop (width * (1 + f)) l) ≡ ys → take (width * (1 + f)) l ≡ xs
      → take (width * (1 + f + b)) (joined_of f b l) ≡ reversed_of b ys ++ xs
  unfolding joined_of TB B S R
  joined_front {xs} {ys} ey ex =
      ap (λ (z : List Float). take (width * (1 + f + b)) (reversed_of b z ++ (take (width * (1 + f)) l ++ R))) ey
      ∙ ap (λ (z : List Float). take (width * (1 + f + b)) (reversed_of b ys ++ (z ++ R))) ex
      ∙ ap (take (width * (1 + f + b))) (sym (append_assoc (reversed_of b ys) xs R))
      ∙ take_at (reversed_of b ys ++ xs) R (width * (1 + f + b))
      (length-append (reversed_of b ys) xs
      ∙ (let y : length (reversed_of b ys) ≡ width * b = ap (λ (z : List Float). length (reversed_of b z)) (sym ey) ∙ l_t_b in
      let x : length xs ≡ width * (1 + f) = ap length (sym ex) ∙ l_s in
      let e : length (reversed_of b ys) + length xs ≡ width * (1 + f + b) = omega (arith, x, y) in e))
