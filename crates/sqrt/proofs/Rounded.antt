-- `round_root` of M * 4 ^ j, where M's root has 53 digits: the nearest whole number to M's root, with j zeros after it.
use Rattle.std.proofs.Common.{◌≡◌, ℕ, suc, ◌+◌, ◌-◌, ◌*◌, ◌/◌, ◌^◌, ◌<◌, ◌≤◌, false, sym, refl, ap, ◌∙◌, subst, le_trans, le_of_eq, lt_of_lt_of_le, le_of_suc-le-suc, lt_of_le_of_lt, mul-le-mul_right, mul_assoc, add-sub_of_le, mul-lt-mul_of_pos_right, mul-pos, lt_of_not-le, add-one, arith, pow_pos, pow-add}
use Prim.Native.Nat.{compare, Ordering}
use native.Mathlib.Nat.{div-eq_of_lt-le, mul-mul-mul_comm}
use lib.Ieee.{Float, binary64, size, nearest, units}
use lib.Ieee.Digits.{size-lt, size-le}
use Rattle.number.proofs.Compare.{compare_times}
use Rattle.number.proofs.Neighbours.{pow_lt_back}
use Rattle.sqrt.specs.Sqrt.{floor_root, round_root}
use Rattle.sqrt.specs.Nearest.{Nearest}
use Rattle.sqrt.proofs.Root.{floor_root_is, under_root, above_root, near}

-- from the kept digits q and the dropped ones, k, on
abbrev root_at : ℕ → ℕ → ℕ → Float
root_at n q k = units binary64 false (nearest q (compare (4 * n) ((2 * q + 1) * (2 * q + 1) * (2 ^ k * 2 ^ k)))) k

round_root_is : (n : ℕ) → round_root n ≡ root_at n (floor_root n / 2 ^ (size (floor_root n) - 53)) (size (floor_root n) - 53)
unfolding round_root
round_root_is n = refl

-- a number of 53 + j digits drops j
pub dropped : (w j : ℕ) → w < 2 ^ (53 + j) → 2 ^ (52 + j) ≤ w → size w - 53 ≡ j
dropped w j hi lo = count (size w) j (size-le w (53 + j) hi) (pow_lt_back (52 + j) (size w) (lt_of_le_of_lt lo (size-lt w)))
  where
    count : (z j : ℕ) → z ≤ 53 + j → 52 + j < z → z - 53 ≡ j
    count z j a b = omega arith

module _ (M j g : ℕ) (lo : 2 ^ 104 ≤ M) (hi : M < 2 ^ 106) (h : Nearest M g) where
  abbrev q : ℕ
  q = floor_root M

  abbrev n : ℕ
  n = M * (2 ^ j * 2 ^ j)

  abbrev w : ℕ
  w = floor_root n

  q_lo : 2 ^ 52 ≤ q
  q_lo = under_root M (2 ^ 52) q lo (floor_root_is M).1

  q_hi : q < 2 ^ 53
  q_hi = above_root M q (2 ^ 53) (floor_root_is M).0 hi

  w_lo : q * 2 ^ j ≤ w
  w_lo = under_root n (q * 2 ^ j) w (le_trans (le_of_eq (mul-mul-mul_comm q (2 ^ j) q (2 ^ j))) (mul-le-mul_right (2 ^ j * 2 ^ j) (floor_root_is M).0)) (floor_root_is n).1

  w_hi : w < (q + 1) * 2 ^ j
  w_hi =
      let l = mul-lt-mul_of_pos_right (floor_root_is M).1 (mul-pos (pow_pos j) (pow_pos j)) in
      above_root n w ((q + 1) * 2 ^ j) (floor_root_is n).0 (lt_of_lt_of_le l (le_of_eq (mul-mul-mul_comm (q + 1) (q + 1) (2 ^ j) (2 ^ j))))

  drops : size w - 53 ≡ j
  drops = dropped w j
      (lt_of_lt_of_le w_hi (le_trans (mul-le-mul_right (2 ^ j) (le_trans (le_of_eq (add-one q)) q_hi)) (le_of_eq (sym (pow-add 2 53 j)))))
      (le_trans (le_of_eq (pow-add 2 52 j)) (le_trans (mul-le-mul_right (2 ^ j) q_lo) w_lo))

  compared : compare (4 * n) ((2 * q + 1) * (2 * q + 1) * (2 ^ j * 2 ^ j)) ≡ compare (4 * M) ((2 * q + 1) * (2 * q + 1))
  compared =
      let u = 2 ^ j * 2 ^ j in
      let Q = (2 * q + 1) * (2 * q + 1) in
      ap (λ (z : ℕ). compare z (Q * u)) (sym (mul_assoc 4 M u)) ∙ sym (compare_times (4 * M) Q u (mul-pos (pow_pos j) (pow_pos j)))

  pub rounded : round_root n ≡ units binary64 false g j
  rounded =
      round_root_is n
      ∙ ap (λ (k : ℕ). root_at n (w / 2 ^ k) k) drops
      ∙ ap (λ (x : ℕ). root_at n x j) (div-eq_of_lt-le (2 ^ j) w_lo w_hi)
      ∙ ap (λ (o : Ordering). units binary64 false (nearest q o) j) compared
      ∙ ap (λ (x : ℕ). units binary64 false x j) (near M q g (lt_of_lt_of_le (pow_pos 104) lo) (floor_root_is M) h)

  -- the nearest whole number has 53 digits too, or is 2 ^ 53
  pub digits_lo : 2 ^ 52 ≤ g
  digits_lo = under_root M (2 ^ 52) g lo (more g M h.high)
    where
      more : (g M : ℕ) → M ≤ g * g + g → M < (g + 1) * (g + 1)
      more g M h = omega arith

  pub digits_hi : g ≤ 2 ^ 53
  digits_hi = le_of_suc-le-suc (lt_of_not-le (λ (l : suc (2 ^ 53) ≤ g). wrong (2 ^ 53) (g - suc (2 ^ 53)) M hi (subst (λ (x : ℕ). x * x < M + x) (sym (add-sub_of_le l)) h.low)))
    where
      wrong : (b k M : ℕ) → M < b * b → (suc b + k) * (suc b + k) < M + (suc b + k) → ⊥
      wrong b k M h a = omega arith
