-- The arithmetic of the gap's error, on plain numbers: K is 2 ^ 53, J is K - 1, L is 2 ^ 1074, h is 2 ^ 52.
use mathlib.Core.Path.{◌≡◌, sym}
use Prim.Native.Nat.{ℕ, ◌+◌, ◌-◌, ◌*◌, ◌^◌, ◌≤◌}
use native.Mathlib.Nat.{le_refl, le_trans, le_of_eq, mul-le-mul, mul-le-mul_right, mul-le-mul_left, le_of_mul-le-mul_right, add-le-add}
use native.Mathlib.Nat.{mul_comm, mul_assoc, mul_left_comm, mul_right_comm, mul-one, add-mul, mul-add}
use native.Mathlib.Omega.{arith}
use lib.Dec.{lit≤, lit<}

-- one coordinate: E the exact distance, D the rounded one, P the rounded square of D
one : (E D P K J L h : ℕ) → E * J ≤ D * K → D * D * J ≤ P * L * K + L * h → E * E * (J * J * J) ≤ (P * L * K + L * h) * (K * K)
one E D P K J L h a b =
    le_trans (le_of_eq (simp (mul_assoc, mul_comm, mul_left_comm)))
    (le_trans (mul-le-mul_right J (mul-le-mul a a))
    (le_trans (le_of_eq (re D K J)) (mul-le-mul_right (K * K) b)))
  where
    re : (D K J : ℕ) → D * K * (D * K) * J ≡ D * D * J * (K * K)
    re D K J = simp (mul_assoc, mul_comm, mul_left_comm)

three : (X Y Z J P Q R M N : ℕ) → X * J ≤ (P * M + N) → Y * J ≤ (Q * M + N) → Z * J ≤ (R * M + N) → (X + Y + Z) * J ≤ (P + Q + R) * M + 3 * N
three X Y Z J P Q R M N a b c = omega arith

-- the two sums
sums : (P Q R S1 S K J : ℕ) → J ≤ K → (P + Q) * J ≤ S1 * K → (S1 + R) * J ≤ S * K → (P + Q + R) * (J * J) ≤ S * (K * K)
sums P Q R S1 S K J l a b = omega (arith, mul-le-mul_right J a, mul-le-mul_right K b, mul-le-mul_left (R * J) l)

-- all of it, with J * J * J * J * J taken out
module _ (Ex Ey Ez Dx Dy Dz Px Py Pz S1 S G C K J L h : ℕ)
    (lJ : J ≤ K)
    (ax : Ex * J ≤ Dx * K) (ay : Ey * J ≤ Dy * K) (az : Ez * J ≤ Dz * K)
    (bx : Dx * Dx * J ≤ Px * L * K + L * h) (by : Dy * Dy * J ≤ Py * L * K + L * h) (bz : Dz * Dz * J ≤ Pz * L * K + L * h)
    (s1 : (Px + Py) * J ≤ S1 * K) (s : (S1 + Pz) * J ≤ S * K)
    (g : S * L * (K * K) ≤ G * G * ((K + 1) * (K + 1))) (le : G ≤ C) where
  squares : (Ex * Ex + Ey * Ey + Ez * Ez) * (J * J * J) ≤ (Px + Py + Pz) * (L * (K * (K * K))) + 3 * (L * h * (K * K))
  squares = three (Ex * Ex) (Ey * Ey) (Ez * Ez) (J * J * J) Px Py Pz (L * (K * (K * K))) (L * h * (K * K))
      (le_trans (one Ex Dx Px K J L h ax bx) (le_of_eq (opened Px)))
      (le_trans (one Ey Dy Py K J L h ay by) (le_of_eq (opened Py)))
      (le_trans (one Ez Dz Pz K J L h az bz) (le_of_eq (opened Pz)))
    where
      opened : (P : ℕ) → (P * L * K + L * h) * (K * K) ≡ P * (L * (K * (K * K))) + L * h * (K * K)
      opened P = omega arith

  root : S * (K * K) * L ≤ C * C * ((K + 1) * (K + 1))
  root = le_trans (le_of_eq (mul_right_comm S (K * K) L)) (le_trans g (mul-le-mul_right ((K + 1) * (K + 1)) (mul-le-mul le le)))

  pub chain : (Ex * Ex + Ey * Ey + Ez * Ez) * (J * J * J * (J * J)) ≤ C * C * ((K + 1) * (K + 1)) * (K * (K * K)) + 3 * (L * h * (K * K) * (J * J))
  chain =
      le_trans (le_of_eq (sym (mul_assoc (Ex * Ex + Ey * Ey + Ez * Ez) (J * J * J) (J * J))))
      (le_trans (mul-le-mul_right (J * J) squares)
      (le_trans (le_of_eq (split (Px + Py + Pz) (J * J) L (K * (K * K)) (L * h * (K * K))))
      (add-le-add
      (le_trans (mul-le-mul_right (L * (K * (K * K))) (sums Px Py Pz S1 S K J lJ s1 s))
      (le_trans (le_of_eq (sym (mul_assoc (S * (K * K)) L (K * (K * K))))) (mul-le-mul_right (K * (K * K)) root)))
      (le_refl (3 * (L * h * (K * K) * (J * J)))))))
    where
      split : (P j l k n : ℕ) → (P * (l * k) + 3 * n) * j ≡ P * j * (l * k) + 3 * (n * j)
      split P j l k n = omega arith

-- ---- with the numbers
abbrev K : ℕ
K = 2 ^ 53

abbrev J : ℕ
J = 2 ^ 53 - 1

abbrev L : ℕ
L = 2 ^ 1074

abbrev h : ℕ
h = 2 ^ 52

module _ (T C : ℕ) (big : 2 ^ 1034 ≤ C) (c : T * (J * J * J * (J * J)) ≤ C * C * ((K + 1) * (K + 1)) * (K * (K * K)) + 3 * (L * h * (K * K) * (J * J))) where
  -- what is lost to underflow is less than C * C
  lost : 3 * (L * h * (K * K) * (J * J)) * K ≤ C * C * 1
  lost = le_trans (lit≤ tt) (le_trans (mul-le-mul {n₁ = 2 ^ 1034} {m₁ = 2 ^ 1034} big big) (le_of_eq (sym (mul-one (C * C)))))

  pub final : T * K ≤ C * C * (K + 8)
  final = le_of_mul-le-mul_right {k = J * J * J * (J * J)}
      (le_trans (le_of_eq (mul_right_comm T K (J * J * J * (J * J))))
      (le_trans (mul-le-mul_right K c)
      (le_trans (le_of_eq (add-mul (C * C * ((K + 1) * (K + 1)) * (K * (K * K))) (3 * (L * h * (K * K) * (J * J))) K))
      (le_trans (add-le-add (le_of_eq (re (C * C) ((K + 1) * (K + 1)) (K * (K * K)) K)) lost)
      (le_trans (le_of_eq (sym (mul-add (C * C) ((K + 1) * (K + 1) * (K * (K * K)) * K) 1)))
      (le_trans (mul-le-mul_left (C * C) (lit≤ {m = (K + 1) * (K + 1) * (K * (K * K)) * K + 1} {n = (K + 8) * (J * J * J * (J * J))} tt))
      (le_of_eq (sym (mul_assoc (C * C) (K + 8) (J * J * J * (J * J)))))))))))
      (lit< tt)
    where
      re : (c a b k : ℕ) → c * a * b * k ≡ c * (a * b * k)
      re c a b k = simp (mul_assoc)
