-- The floor of a square root, and the whole number nearest to one.
use Rattle.std.proofs.Common.{◌≡◌, ℕ, zero, suc, ◌+◌, ◌-◌, ◌*◌, ◌/◌, ◌^◌, ◌<◌, ◌≤◌, Bool, true, false, cond, not, T, leb, sym, ap, ◌∙◌, subst, zero-le, le_trans, le_of_eq, lt_of_lt_of_le, le_of_suc-le-suc, add-sub_of_le, mul-le-mul, le_antisymm, lt_of_not-le, not-le_of_lt, add-one, arith, leb→le, pow_mono, pow-add}
use Prim.Native.Nat.{compare}
use Rattle.std.proofs.lemmas.Nat.{mul-pow}
use lib.Dec.{nleb→lt}
use lib.Ieee.{size, nearest}
use lib.Ieee.Digits.{size-lt}
use Rattle.number.proofs.Compare.{by_order}
use Rattle.sqrt.specs.Sqrt.{root_in, floor_root}
use Rattle.sqrt.specs.Nearest.{Nearest}

-- q is the floor of n's root
abbrev pub IsRoot : ℕ → ℕ → Type 0
IsRoot n q = (q * q ≤ n) × (n < (q + 1) * (q + 1))

quarter : (n d : ℕ) → n < 4 ^ suc d → n / 4 < 4 ^ d
quarter n d h = omega arith

-- one more digit
digit : (n p : ℕ) → IsRoot (n / 4) p → (b : Bool) → (T b → (2 * p + 1) * (2 * p + 1) ≤ n) → (T (not b) → n < (2 * p + 1) * (2 * p + 1)) → IsRoot n (cond b (2 * p + 1) (2 * p))
digit n p h true y z = (y tt, omega (arith, h.1))
digit n p h false y z = (omega (arith, h.0), z tt)

root_in_is : (d n : ℕ) → n < 4 ^ d → IsRoot n (root_in d n)
unfolding root_in
root_in_is zero n h = (zero-le, h)
root_in_is (suc d) n h =
    let r = 2 * root_in d (n / 4) in
    digit n (root_in d (n / 4)) (root_in_is d (n / 4) (quarter n d h)) (leb ((r + 1) * (r + 1)) n) (leb→le ((r + 1) * (r + 1)) n) (nleb→lt ((r + 1) * (r + 1)) n)

four_two : (d : ℕ) → 4 ^ d ≡ 2 ^ (2 * d)
four_two d = mul-pow 2 2 d ∙ sym (pow-add 2 d d) ∙ ap (λ (x : ℕ). 2 ^ x) (let e : d + d ≡ 2 * d = omega arith in e)

half : (z : ℕ) → z ≤ 2 * (suc z / 2)
half z = omega arith

pub floor_root_is : (n : ℕ) → IsRoot n (floor_root n)
unfolding floor_root
floor_root_is n = root_in_is (suc (size n) / 2) n (lt_of_lt_of_le (size-lt n) (le_trans (pow_mono (half (size n))) (le_of_eq (sym (four_two (suc (size n) / 2))))))

-- a number whose square is at most n is at most n's root, and one whose square is above n is above it
pub under_root : (n p q : ℕ) → p * p ≤ n → n < (q + 1) * (q + 1) → p ≤ q
under_root n p q h k = le_of_suc-le-suc (lt_of_not-le (λ (g : suc q ≤ p). not-le_of_lt k (le_trans (sq g) h)))
  where
    sq : suc q ≤ p → (q + 1) * (q + 1) ≤ p * p
    sq g = let l : q + 1 ≤ p = omega arith in mul-le-mul l l

pub above_root : (n w p : ℕ) → w * w ≤ n → n < p * p → w < p
above_root n w p a b = lt_of_not-le (λ (g : p ≤ w). not-le_of_lt b (le_trans (mul-le-mul g g) a))

-- ---- the nearest whole number
nearest_le : (n g h : ℕ) → Nearest n g → Nearest n h → g ≤ h
nearest_le n g h p q = le_of_suc-le-suc (lt_of_not-le (λ (l : suc h ≤ g). wrong (g - suc h) (subst (λ (x : ℕ). x * x < n + x) (sym (add-sub_of_le l)) p.low) q.high))
  where
    wrong : (k : ℕ) → (suc h + k) * (suc h + k) < n + (suc h + k) → n ≤ h * h + h → ⊥
    wrong k a b = omega arith

pub nearest_unique : (n g h : ℕ) → Nearest n g → Nearest n h → g ≡ h
nearest_unique n g h p q = le_antisymm (nearest_le n g h p q) (nearest_le n h g q p)

-- from the floor and the remainder: up where the remainder is above the floor
pub nearest_up : (n q r : ℕ) → q * q + r ≡ n → r ≤ 2 * q → q < r → Nearest n (q + 1)
nearest_up n q r e h l = record { low = omega arith; high = omega arith }

pub nearest_down : (n q r : ℕ) → 0 < n → q * q + r ≡ n → r ≤ q → Nearest n q
nearest_down n zero r p e h = absurd (omega arith)
nearest_down n (suc q) r p e h = record { low = omega arith; high = omega arith }

-- `nearest` of the definition finds it, and there is no tie: four times a whole number is no odd square
pub near : (n q g : ℕ) → 0 < n → IsRoot n q → Nearest n g → nearest q (compare (4 * n) ((2 * q + 1) * (2 * q + 1))) ≡ g
near n q g p r h =
    by_order (4 * n) ((2 * q + 1) * (2 * q + 1)) (λ o. nearest q o ≡ g)
    (λ c. nearest_unique n q g (nearest_down n q (n - q * q) p rest (omega arith)) h)
    (λ c. absurd (omega arith))
    (λ c. sym (add-one q) ∙ nearest_unique n (q + 1) g (nearest_up n q (n - q * q) rest (omega arith) (omega arith)) h)
  where
    rest : q * q + (n - q * q) ≡ n
    rest = add-sub_of_le r.0
