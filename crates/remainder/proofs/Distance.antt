-- The terms that a pass takes, as one number, are not near a multiple of the weight of one: by `far`, for four to seven terms after the first.
use mathlib.Core.Path.{◌≡◌, refl, sym, ap, ap₂, subst, ◌∙◌}
use mathlib.Core.Bool.{Bool, true, ◌&&◌}
use mathlib.Core.List.{List, [], ◌∷◌}
use mathlib.Core.Logic.{inl, inr, ⊎_elim}
use Prim.Native.Nat.{ℕ, zero, suc, ◌+◌, ◌-◌, ◌*◌, ◌/◌, ◌%◌, ◌^◌, ◌≤◌, ◌<◌}
use native.Mathlib.Nat.{mul_assoc, mul-le-mul_left, mul-le-mul_right, mul-le-mul, le_of_mul-le-mul_left, div-add-mod', mod-lt}
use native.Mathlib.Omega.{arith}
use lib.Dec.{ltb}
use lib.ListN.{get_or}
use lib.Pow.{pow_pos, pow_mono}
use borrow.Author.Tests.{ltb-true, le-ltb}
use Rattle.std.proofs.lemmas.Bool.{cases_lt, and_parts}
use Rattle.loops.specs.Loop.{pick}
use Rattle.number.proofs.Powers.{pow_sum}
use Rattle.remainder.specs.Tables.{two_over_pi}
use Rattle.remainder.proofs.Approximation.{Clear}
use Rattle.remainder.proofs.Far.{digits, digits_from, jv, raised_q0, modulus_bits, far}
use Rattle.remainder.proofs.Weighing.{sum_of_terms}

-- ---- numbers that stay away from the multiples of another

to_remainder : (M L a : ℕ) → 0 < M → 0 < L → Clear M L a → (L ≤ a % M) × (a % M + L ≤ M)
to_remainder M L a p q h =
    let e : a / M * M + a % M ≡ a = div-add-mod' a M in
    let l : a % M < M = mod-lt a p in (
      ⊎_elim (λ k. omega (arith, k)) (λ k. absurd (omega (arith, k))) (h (a / M)),
      ⊎_elim (λ k. absurd (omega (arith, k))) (λ k. omega (arith, k)) (h (suc (a / M))),
    )

scaled_by : (k M L a : ℕ) → Clear M L a → Clear (k * M) (k * L) (k * a)
scaled_by k M L a h y =
    ⊎_elim (λ l. inl (omega (arith, mul-le-mul_left k l))) (λ l. inr (omega (arith, mul-le-mul_left k l))) (h y)

unscaled_by : (k M L a : ℕ) → 0 < k → Clear (k * M) (k * L) (k * a) → Clear M L a
unscaled_by k M L a p h y =
    ⊎_elim
    (λ l. let f : k * (y * M + L) ≤ k * a = omega (arith, l) in inl (le_of_mul-le-mul_left f p))
    (λ l. let f : k * (a + L) ≤ k * (y * M) = omega (arith, l) in inr (le_of_mul-le-mul_left f p)) (h y)

-- what is added, a multiple and a rest, changes the distance by the rest at most
without : (M L l h a r : ℕ) → l + r ≤ L → Clear M L (h * M + (a + r)) → Clear M l a
without M L l h a r e f y = ⊎_elim (λ k. inl (omega (arith, k))) (λ k. inr (omega (arith, k))) (f (y + h))

-- ---- the digits of 2/pi

-- a digit, two places on, so that the two before the first are there, and 0
unfoldable D : ℕ → ℕ
D k = get_or (0 ∷ 0 ∷ two_over_pi) k 0

digits_none : (j : ℕ) → digits 0 j ≡ 0
unfolding digits
digits_none j = refl

digits_more : (n j : ℕ) → digits (suc n) j ≡ D j * 2 ^ (24 * n) + digits n (j + 1)
unfolding digits D
digits_more n j = refl

digits_split : (a b j : ℕ) → digits (a + b) j ≡ digits a j * 2 ^ (24 * b) + digits b (j + a)
digits_split zero b j =
    let p : 0 + b ≡ b = omega arith in
    let q : j + 0 ≡ j = omega arith in
    ap (λ (n : ℕ). digits n j) p ∙ omega (arith, ap (λ (x : ℕ). x * 2 ^ (24 * b)) (digits_none j), ap (digits b) q)
digits_split (suc a) b j =
    let p : suc a + b ≡ suc (a + b) = omega arith in
    let q : j + 1 + a ≡ j + suc a = omega arith in
    let w = pow_sum (24 * a) (24 * b) (24 * (a + b)) (omega arith) in
    ap (λ (n : ℕ). digits n j) p
    ∙ omega (
      arith,
      digits_more (a + b) j,
      digits_split a b (j + 1),
      ap (digits b) q,
      ap (λ (x : ℕ). D j * x) w,
      ap (λ (x : ℕ). x * 2 ^ (24 * b)) (digits_more a j),
    )

-- from the other end
digits_last : (n j : ℕ) → digits (suc n) j ≡ digits n j * 2 ^ 24 + D (j + n)
digits_last n j =
    let p : suc n ≡ n + 1 = omega arith in
    ap (λ (k : ℕ). digits k j) p ∙ omega (arith, digits_split n 1 j, digits_more 0 (j + n), digits_none (j + n + 1))

-- every digit of a list is below 2 ^ 24
abbrev all_small : List ℕ → Bool
all_small [] = true
all_small (d ∷ ds) = ltb d (2 ^ 24) && all_small ds

small_at : (l : List ℕ) → all_small l ≡ true → (i : ℕ) → get_or l i 0 < 2 ^ 24
small_at [] h i = omega arith
small_at (d ∷ ds) h zero = ltb-true d (2 ^ 24) (and_parts (ltb d (2 ^ 24)) (all_small ds) h).0
small_at (d ∷ ds) h (suc i) = small_at ds (and_parts (ltb d (2 ^ 24)) (all_small ds) h).1 i

pub digit_below : (i : ℕ) → get_or two_over_pi i 0 < 2 ^ 24
digit_below i = small_at two_over_pi refl i

D_below : (k : ℕ) → D k < 2 ^ 24
unfolding D
D_below k = small_at (0 ∷ 0 ∷ two_over_pi) refl k

digits_below : (n j : ℕ) → digits n j < 2 ^ (24 * n)
digits_below zero j = omega (arith, digits_none j, pow_pos (24 * 0))
digits_below (suc n) j =
    let r : digits n (j + 1) < 2 ^ (24 * n) = digits_below n (j + 1) in
    let k : suc (D j) ≤ 2 ^ 24 = D_below j in
    omega (arith, mul-le-mul_right (2 ^ (24 * n)) k, pow_sum 24 (24 * n) (24 * suc n) (omega arith), digits_more n j)

-- ---- the terms

-- the three pieces of a significand m of 53 bits, 19 bits longer
pub record Parts (m X0 X1 X2 : ℕ) : Type 0 where
  pub some : 0 < m
  pub few : m < 2 ^ 53
  pub under0 : X0 < 2 ^ 24
  pub under1 : X1 < 2 ^ 24
  pub under2 : X2 < 2 ^ 24
  pub sum : m * 2 ^ 19 ≡ X0 * 2 ^ 48 + X1 * 2 ^ 24 + X2

-- the digit that stands j before the one of index n; 0 before the first
abbrev pub digit_at : ℕ → ℕ → ℕ
digit_at n j = pick (ltb n j) 0 (get_or two_over_pi (n - j) 0)

-- q[i], for the pieces of the angle and jv
abbrev pub term_at : (v X0 X1 X2 i : ℕ) → ℕ
term_at v X0 X1 X2 i = X0 * digit_at (v + i) 0 + X1 * digit_at (v + i) 1 + X2 * digit_at (v + i) 2

back_0 : (l : List ℕ) (n : ℕ) → pick (ltb n 0) 0 (get_or l (n - 0) 0) ≡ get_or (0 ∷ 0 ∷ l) (suc (suc n)) 0
back_0 l n = let e : n - 0 ≡ n = omega arith in rw (le-ltb n 0 (omega arith), e)

back_1 : (l : List ℕ) (n : ℕ) → pick (ltb n 1) 0 (get_or l (n - 1) 0) ≡ get_or (0 ∷ 0 ∷ l) (suc n) 0
back_1 l zero = refl
back_1 l (suc n) = let e : suc n - 1 ≡ n = omega arith in rw (le-ltb (suc n) 1 (omega arith), e)

back_2 : (l : List ℕ) (n : ℕ) → pick (ltb n 2) 0 (get_or l (n - 2) 0) ≡ get_or (0 ∷ 0 ∷ l) n 0
back_2 l zero = refl
back_2 l (suc zero) = refl
back_2 l (suc (suc n)) = let e : suc (suc n) - 2 ≡ n = omega arith in rw (le-ltb (suc (suc n)) 2 (omega arith), e)

-- in the list with two digits more
term_is : (v X0 X1 X2 i : ℕ) → term_at v X0 X1 X2 i ≡ X0 * D (v + 2 + i) + X1 * D (v + 1 + i) + X2 * D (v + i)
unfolding D
term_is v X0 X1 X2 i =
    let e : suc (suc (v + i)) ≡ v + 2 + i = omega arith in
    let f : suc (v + i) ≡ v + 1 + i = omega arith in
    let a : digit_at (v + i) 0 ≡ D (v + 2 + i) = back_0 two_over_pi (v + i) ∙ ap D e in
    let b : digit_at (v + i) 1 ≡ D (v + 1 + i) = back_1 two_over_pi (v + i) ∙ ap D f in
    let c : digit_at (v + i) 2 ≡ D (v + i) = back_2 two_over_pi (v + i) in
    ap₂ (λ (x y : ℕ). x + y) (ap₂ (λ (x y : ℕ). X0 * x + X1 * y) a b) (ap (λ (x : ℕ). X2 * x) c)

-- a last digit more, of three runs of digits
weighed : (X0 X1 X2 a b c x y z : ℕ)
    → (X0 * a + X1 * b + X2 * c) * 2 ^ 24 + (X0 * x + X1 * y + X2 * z) ≡ X0 * (a * 2 ^ 24 + x) + X1 * (b * 2 ^ 24 + y) + X2 * (c * 2 ^ 24 + z)
weighed X0 X1 X2 a b c x y z = omega arith

-- the terms' number is each piece's product with as many digits
terms_are : (v X0 X1 X2 n : ℕ) → sum_of_terms (term_at v X0 X1 X2) n ≡ X0 * digits n (v + 2) + X1 * digits n (v + 1) + X2 * digits n v
terms_are v X0 X1 X2 zero = sym (rw (digits_none (v + 2), digits_none (v + 1), digits_none v) (omega arith))
terms_are v X0 X1 X2 (suc n) =
    ap₂ (λ (x y : ℕ). x * 2 ^ 24 + y) (terms_are v X0 X1 X2 n) (term_is v X0 X1 X2 n)
    ∙ weighed X0 X1 X2 (digits n (v + 2)) (digits n (v + 1)) (digits n v) (D (v + 2 + n)) (D (v + 1 + n)) (D (v + n))
    ∙ sym (rw (digits_last n (v + 2), digits_last n (v + 1), digits_last n v))

-- ---- the product of the angle and the digits

product_of : (X B A a p d q r G P : ℕ) → A ≡ a * p + (d * q + r) → B * p ≡ G → B * q ≡ P → X * B * A ≡ X * a * G + (X * d * P + X * (B * r))
product_of X B A a p d q r G P e f g = omega (arith, ap (λ (z : ℕ). X * B * z) e, ap (λ (z : ℕ). X * a * z) f, ap (λ (z : ℕ). X * d * z) g)

-- of one piece, of b bits' weight: a multiple of ten digits' weight, the part of m digits' weight that is summed, and the rest
piece_times : (X b A a k d n r m : ℕ) → A ≡ a * 2 ^ (24 * k) + (d * 2 ^ (24 * n) + r) → b + 24 * k ≡ 24 * 10 → b + 24 * n ≡ 24 * m
    → X * 2 ^ b * A ≡ X * a * 2 ^ (24 * 10) + (X * d * 2 ^ (24 * m) + X * (2 ^ b * r))
piece_times X b A a k d n r m e f g =
    product_of X (2 ^ b) A a (2 ^ (24 * k)) d (2 ^ (24 * n)) r (2 ^ (24 * 10)) (2 ^ (24 * m)) e
    (pow_sum b (24 * k) (24 * 10) f) (pow_sum b (24 * n) (24 * m) g)

last_times : (x A d P r : ℕ) → A ≡ d * P + r → x * A ≡ x * d * P + x * r
last_times x A d P r e = omega (arith, ap (λ (z : ℕ). x * z) e)

-- of three pieces
pieces_times : (x y z A a b G P c d r s u v : ℕ) → x * A ≡ a * G + (c * P + r) → y * A ≡ b * G + (d * P + s) → z * A ≡ u * P + v
    → (x + y + z) * A ≡ (a + b) * G + (P * (c + d + u) + (r + s + v))
pieces_times x y z A a b G P c d r s u v e f g = omega arith

-- what the r digits after n leave, which are not summed
abbrev rest_of : (v X0 X1 X2 n r : ℕ) → ℕ
rest_of v X0 X1 X2 n r = X0 * (2 ^ 48 * digits r (v + 2 + n)) + X1 * (2 ^ 24 * digits (r + 1) (v + 1 + n)) + X2 * digits (r + 2) (v + n)

product_is : (v X0 X1 X2 n r : ℕ) → n + r ≡ 8 → (X0 * 2 ^ 48 + X1 * 2 ^ 24 + X2) * digits_from v
    ≡ (X0 * digits 2 v + X1 * digits 1 v) * 2 ^ 240
    + (2 ^ (24 * (r + 2)) * (X0 * digits n (v + 2) + X1 * digits n (v + 1) + X2 * digits n v) + rest_of v X0 X1 X2 n r)
product_is v X0 X1 X2 n r e =
    let e1 : 9 ≡ n + (r + 1) = omega arith in
    let e2 : 10 ≡ n + (r + 2) = omega arith in
    let s0 = digits_split 2 8 v ∙ ap (λ (x : ℕ). digits 2 v * 2 ^ (24 * 8) + x) (ap (λ (k : ℕ). digits k (v + 2)) (sym e) ∙ digits_split n r (v + 2)) in
    let s1 = digits_split 1 9 v ∙ ap (λ (x : ℕ). digits 1 v * 2 ^ (24 * 9) + x) (ap (λ (k : ℕ). digits k (v + 1)) e1 ∙ digits_split n (r + 1) (v + 1)) in
    let s2 = ap (λ (k : ℕ). digits k v) e2 ∙ digits_split n (r + 2) v in
    pieces_times (X0 * 2 ^ 48) (X1 * 2 ^ 24) X2 (digits_from v) (X0 * digits 2 v) (X1 * digits 1 v) (2 ^ 240) (2 ^ (24 * (r + 2)))
    (X0 * digits n (v + 2)) (X1 * digits n (v + 1)) (X0 * (2 ^ 48 * digits r (v + 2 + n))) (X1 * (2 ^ 24 * digits (r + 1) (v + 1 + n))) (X2 * digits n v)
    (X2 * digits (r + 2) (v + n))
    (piece_times X0 48 (digits_from v) (digits 2 v) 8 (digits n (v + 2)) r (digits r (v + 2 + n)) (r + 2) s0 refl (omega arith))
    (piece_times X1 24 (digits_from v) (digits 1 v) 9 (digits n (v + 1)) (r + 1) (digits (r + 1) (v + 1 + n)) (r + 2) s1 refl (omega arith))
    (last_times X2 (digits_from v) (digits n v) (2 ^ (24 * (r + 2))) (digits (r + 2) (v + n)) s2)

-- the rest, part by part
part_below : (X b n j m : ℕ) → X < 2 ^ 24 → b + 24 * n ≡ 24 * m → X * (2 ^ b * digits n j) ≤ 2 ^ 24 * 2 ^ (24 * m)
part_below X b n j m h e =
    let p : digits n j ≤ 2 ^ (24 * n) = omega (arith, digits_below n j) in
    let q : X ≤ 2 ^ 24 = omega arith in
    mul-le-mul q (subst (λ (x : ℕ). 2 ^ b * digits n j ≤ x) (pow_sum b (24 * n) (24 * m) e) (mul-le-mul_left (2 ^ b) p))

rest_below : {m X0 X1 X2 : ℕ} (v n r : ℕ) → Parts m X0 X1 X2 → rest_of v X0 X1 X2 n r ≤ 2 ^ 26 * 2 ^ (24 * (r + 2))
rest_below {X0 = X0} {X1 = X1} {X2 = X2} v n r p =
    let a = part_below X0 48 r (v + 2 + n) (r + 2) p.under0 (omega arith) in
    let b = part_below X1 24 (r + 1) (v + 1 + n) (r + 2) p.under1 (omega arith) in
    let d = part_below X2 0 (r + 2) (v + n) (r + 2) p.under2 (omega arith) in
    omega (arith, a, b, d)

-- ---- the modulus

-- the weight of one among jz digits, and how near the terms' number may come to its multiples
abbrev pub one_at : (e jz : ℕ) → ℕ
one_at e jz = 2 ^ (24 * jz + 1023 - raised_q0 e)

abbrev pub gap_at : (e jz : ℕ) → ℕ
gap_at e jz = 2 ^ (24 * jz + 960 - raised_q0 e)

-- no digit before the first
none_before : (v X0 X1 : ℕ) → v ≡ 0 → X0 * digits 2 v + X1 * digits 1 v ≡ 0
unfolding digits
none_before v X0 X1 e = ap (λ (v : ℕ). X0 * digits 2 v + X1 * digits 1 v) e ∙ omega arith

-- The part H above is a multiple of the modulus: the weight of its digits is one, or there are no such digits.
above_is : (e H : ℕ) → e ≤ 2046 → (jv e ≡ 0 → H ≡ 0) → (h : ℕ) × (H * 2 ^ 240 ≡ h * 2 ^ (1239 - raised_q0 e))
above_is e H l z =
    let b = 1239 - raised_q0 e in
    ⊎_elim
    (λ k.
    let g : 0 ≡ 0 * 2 ^ b = omega arith in
    (0, ap (λ (x : ℕ). x * 2 ^ 240) (z (omega arith)) ∙ g))
    (λ k. (
      H * 2 ^ (240 - b),
      ap (λ (x : ℕ). H * x) (sym (pow_sum (240 - b) b 240 (omega arith))) ∙ sym (mul_assoc H (2 ^ (240 - b)) (2 ^ b)),
    ))
    (cases_lt e 1049)

-- what is away from the multiples of P w by 2 P l, less a multiple and a rest, over P
apart_by : (M L x h P w l t R : ℕ) → 0 < P → 0 < w → 0 < l → M ≡ P * w → L ≡ P * (2 * l) → x ≡ h * M + (P * t + R) → R ≤ P * l → Clear M L x
    → (l ≤ t % w) × (t % w + l ≤ w)
apart_by M L x h P w l t R p q r em el ex b f =
    let g : Clear M (P * l) (P * t) = without M L (P * l) h (P * t) R (omega arith) (subst (Clear M L) ex f) in
    to_remainder w l t q r (unscaled_by P w l t p (subst (λ (z : ℕ). Clear z (P * l) (P * t)) em g))

-- For an angle of exponent field e: the terms 0 to jz as one number stay 2 ^ -63 away from each whole number, in units of the weight of one.
pub terms_apart : (e : ℕ) → 1043 ≤ e → e ≤ 2046 → {m X0 X1 X2 : ℕ} → Parts m X0 X1 X2 → (jz : ℕ) → 4 ≤ jz → jz ≤ 7
    → let t = sum_of_terms (term_at (jv e) X0 X1 X2) (suc jz) % one_at e jz in (gap_at e jz ≤ t) × (t + gap_at e jz ≤ one_at e jz)
terms_apart e h l {m} {X0} {X1} {X2} p jz j0 j1 =
    let v = jv e in
    let A = digits_from v in
    let r = 7 - jz in
    let n = suc jz in
    let s = raised_q0 e in
    let b = modulus_bits e in
    let P = 2 ^ (24 * (r + 2)) in
    let R = rest_of v X0 X1 X2 n r in
    let u = above_is e (X0 * digits 2 v + X1 * digits 1 v) l (none_before v X0 X1) in
    let M = 2 ^ 19 * 2 ^ b in
    let g : M ≡ 2 ^ (1239 - s) = pow_sum 19 b (1239 - s) (omega arith) in
    let em : M ≡ P * one_at e jz = g ∙ sym (pow_sum (24 * (r + 2)) (24 * jz + 1023 - s) (1239 - s) (omega arith)) in
    let el : 2 ^ 19 * 2 ^ (b - 62) ≡ P * (2 * gap_at e jz) =
    pow_sum 19 (b - 62) (19 + (b - 62)) refl
    ∙ sym (pow_sum (24 * (r + 2)) (1 + (24 * jz + 960 - s)) (19 + (b - 62)) (omega arith))
    ∙ ap (λ (x : ℕ). P * x) (sym (pow_sum 1 (24 * jz + 960 - s) (1 + (24 * jz + 960 - s)) refl)) in
    let ex : 2 ^ 19 * (m * A) ≡ u.0 * M + (P * sum_of_terms (term_at v X0 X1 X2) n + R) =
    turned_round m A ∙ ap (λ (x : ℕ). x * A) p.sum ∙ product_is v X0 X1 X2 n r (omega arith)
    ∙ ap₂ (λ (x y : ℕ). x + (P * y + R)) (u.1 ∙ ap (λ (x : ℕ). u.0 * x) (sym g)) (sym (terms_are v X0 X1 X2 n)) in
    let c : R ≤ P * gap_at e jz =
    wider R P (gap_at e jz) (rest_below v n r p) (pow_mono {i = 26} {j = 24 * jz + 960 - s} (omega arith)) in
    apart_by M (2 ^ 19 * 2 ^ (b - 62)) (2 ^ 19 * (m * A)) u.0 P (one_at e jz) (gap_at e jz) (sum_of_terms (term_at v X0 X1 X2) n) R
    (pow_pos (24 * (r + 2))) (pow_pos (24 * jz + 1023 - s)) (pow_pos (24 * jz + 960 - s)) em el ex c
    (scaled_by (2 ^ 19) (2 ^ b) (2 ^ (b - 62)) (m * A) (far e h l m p.some p.few))
  where
    turned_round : (m A : ℕ) → 2 ^ 19 * (m * A) ≡ m * 2 ^ 19 * A
    turned_round m A = omega arith

    wider : (R P l : ℕ) → R ≤ 2 ^ 26 * P → 2 ^ 26 ≤ l → R ≤ P * l
    wider R P l h k = omega (arith, mul-le-mul_left P k)
