-- A list under a call on a part of it, as it comes back.
use mathlib.Core.Path.{◌≡◌, ap, ◌∙◌}
use mathlib.Core.List.{List, ◌++◌, append-nil}
use Prim.Native.Nat.{ℕ, ◌+◌, ◌-◌, ◌≤◌}
use native.Mathlib.Omega.{arith}
use lib.Ieee.{Float}
use lib.ListN.{length, take, drop, replicate, length-append, length-drop, drop_of_length-le}
use lib.Seq.{length-take-le}
use Rattle.std.proofs.lemmas.List.Edits.{length-between}

abbrev pub back_from : ℕ → List Float → List Float → List Float
back_from a l part = take a l ++ (part ++ drop (length l - a) (drop a l))

pub back_from_lem : (a : ℕ) (l part : List Float) → a ≤ length l → back_from a l part ≡ take a l ++ part
back_from_lem a l part h =
    ap (λ (r : List Float). take a l ++ (part ++ r)) (drop_of_length-le (drop a l) {i = length l - a} (let e = length-drop a l in omega arith))
    ∙ ap (λ (r : List Float). take a l ++ r) (append-nil part)

pub length_from : (a : ℕ) (l part : List Float) → a ≤ length l → length part ≡ length l - a → length (back_from a l part) ≡ length l
length_from a l part h e =
    ap length (back_from_lem a l part h) ∙ length-append (take a l) part
    ∙ (let z = length-take-le a l h in let g : length (take a l) + length part ≡ length l = omega (arith, z, e, h) in g)

-- zeros from a place on
pub zeros_from : (a : ℕ) (l : List Float) {part : List Float} (z : Float) → a ≤ length l → part ≡ replicate (length (take (length l - a) (drop a l))) z
    → back_from a l part ≡ take a l ++ replicate (length l - a) z
zeros_from a l z h e = back_from_lem a l _ h ∙ ap (λ (r : List Float). take a l ++ r) (e ∙ ap (λ (k : ℕ). replicate k z) (length-between l a (length l) (omega arith)))
