-- Numbers at the front of a list, and the list that their stores leave.
use mathlib.Core.Path.{◌≡◌, sym, ap, ◌∙◌}
use mathlib.Core.List.{List, [], ◌∷◌, ◌++◌}
use Prim.Native.Nat.{◌≤◌}
use native.Mathlib.Omega.{arith}
use lib.Ieee.{Float}
use lib.ListN.{length, drop}
use lib.Seq.{sets-eq}
use Rattle.std.proofs.lemmas.List.{drop_all}
use Rattle.patch.specs.declared.patch.Parameters.{Parameters}
use Rattle.probe.specs.Call.{put_three, put_parameters}

pub three_put : (t : List Float) (x y z : Float) → 3 ≤ length t → (x ∷ y ∷ z ∷ []) ++ drop 3 t ≡ put_three t 0 x y z
unfolding put_three
three_put t x y z room = sym (sets-eq (x ∷ y ∷ z ∷ []) t 0 room)

pub six_put : (t : List Float) (x y z p q r : Float) → 6 ≤ length t
    → (x ∷ y ∷ z ∷ p ∷ q ∷ r ∷ []) ++ drop 6 t ≡ put_three (put_three t 0 x y z) 3 p q r
unfolding put_three
six_put t x y z p q r room = sym (sets-eq (x ∷ y ∷ z ∷ p ∷ q ∷ r ∷ []) t 0 room)

pub four_put : (t : List Float) (x : Parameters) → length t ≡ 4 → x.u1 ∷ x.v1 ∷ x.u2 ∷ x.v2 ∷ [] ≡ put_parameters t x
unfolding put_parameters
four_put t x size =
    let all = x.u1 ∷ x.v1 ∷ x.u2 ∷ x.v2 ∷ [] in
    ap (λ (l : List Float). all ++ l) (sym (drop_all 4 t (omega arith))) ∙ sym (sets-eq all t 0 (omega arith))
