-- The normal matrix is symmetric bit for bit: a product does not depend on the order of its factors, so six sums give all nine.
use mathlib.Core.Path.{◌≡◌}
use mathlib.Core.List.{List, [], ◌∷◌}
use Prim.Native.Nat.{ℕ}
use lib.Ieee.{Float}
use Rattle.number.specs.Operators.{◌⊗◌}
use Rattle.number.proofs.Symmetry.{mul_swap}
use Rattle.geometry.specs.declared.vector.Vector3D.{Vector3D}
use Rattle.meeting.specs.Correction.{column_of, dot4_of, row_dot, normal_matrix}

-- the sum of four products, the factors of each exchanged
row_swap : (c : List Vector3D) (p q : Vector3D → Float) → row_dot c p q ≡ row_dot c q p
unfolding dot4_of
row_swap c p q = rw (swap 0, swap 1, swap 2, swap 3)
  where
    swap : (k : ℕ) → p (column_of c k) ⊗ q (column_of c k) ≡ q (column_of c k) ⊗ p (column_of c k)
    swap k = mul_swap (p (column_of c k)) (q (column_of c k))

-- the code's matrix: the three sums below the diagonal are those above it
abbrev pub six_sums : List Vector3D → List (List Float)
six_sums c =
    let x : Vector3D → Float = λ v. v.x in
    let y : Vector3D → Float = λ v. v.y in
    let z : Vector3D → Float = λ v. v.z in
    (row_dot c x x ∷ row_dot c x y ∷ row_dot c x z ∷ [])
    ∷ (row_dot c x y ∷ row_dot c y y ∷ row_dot c y z ∷ [])
    ∷ (row_dot c x z ∷ row_dot c y z ∷ row_dot c z z ∷ [])
    ∷ []

pub symmetric : (c : List Vector3D) → normal_matrix c ≡ six_sums c
unfolding normal_matrix
symmetric c = rw (row_swap c (λ v. v.y) (λ v. v.x), row_swap c (λ v. v.z) (λ v. v.x), row_swap c (λ v. v.z) (λ v. v.y))
