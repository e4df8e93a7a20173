-- `compare` of two whole numbers, by how they stand to each other.
use mathlib.Core.Path.{◌≡◌, refl, ap, subst⁻¹}
use Prim.Native.Nat.compare
use Prim.Native.Nat.{ℕ, zero, suc, ◌*◌, ◌<◌, suc-le-suc, compare, Ordering}
use native.Mathlib.Nat.{zero-lt-suc, mul-lt-mul_of_pos_right}
use native.Mathlib.Omega.{arith}

-- what is so where a is less, where they are the same and where a is more is so of what `compare` says
pub by_order : (a b : ℕ) (P : Ordering → Type 0) → (a < b → P Ordering.lt) → (a ≡ b → P Ordering.eq) → (b < a → P Ordering.gt) → P (compare a b)
by_order zero zero P less same more = subst⁻¹ P compare.zero-zero (same refl)
by_order zero (suc b) P less same more = subst⁻¹ P (compare.zero-suc b) (less (zero-lt-suc b))
by_order (suc a) zero P less same more = subst⁻¹ P (compare.suc-zero a) (more (zero-lt-suc a))
by_order (suc a) (suc b) P less same more =
    subst⁻¹ P (compare.suc-suc a b) (by_order a b P (λ h. less (suc-le-suc h)) (λ e. same (ap suc e)) (λ h. more (suc-le-suc h)))

told_less : (a b : ℕ) → a < b → Ordering.lt ≡ compare a b
told_less a b h = by_order a b (λ o. Ordering.lt ≡ o) (λ k. refl) (λ k. absurd (omega arith)) (λ k. absurd (omega arith))

told_same : (a b : ℕ) → a ≡ b → Ordering.eq ≡ compare a b
told_same a b h = by_order a b (λ o. Ordering.eq ≡ o) (λ k. absurd (omega arith)) (λ k. refl) (λ k. absurd (omega arith))

told_more : (a b : ℕ) → b < a → Ordering.gt ≡ compare a b
told_more a b h = by_order a b (λ o. Ordering.gt ≡ o) (λ k. absurd (omega arith)) (λ k. absurd (omega arith)) (λ k. refl)

-- both sides times u
pub compare_times : (a b u : ℕ) → 0 < u → compare a b ≡ compare (a * u) (b * u)
compare_times a b u U =
    by_order a b (λ o. o ≡ compare (a * u) (b * u))
    (λ h. told_less (a * u) (b * u) (mul-lt-mul_of_pos_right h U))
    (λ e. told_same (a * u) (b * u) (ap (λ (z : ℕ). z * u) e))
    (λ h. told_more (a * u) (b * u) (mul-lt-mul_of_pos_right h U))
