-- How far the multiples of a number a stay from those of another, M: the law of Euclid's divisions, and a walk through them that tests a bound.
use mathlib.Core.Path.{◌≡◌, refl, sym, ap, subst}
use mathlib.Core.Bool.{Bool, true, false, false≢true}
use mathlib.Core.Logic.{◌⊎◌, inl, inr, ⊎_elim}
use Prim.Native.Nat.{ℕ, zero, suc, ◌+◌, ◌-◌, ◌*◌, ◌/◌, ◌%◌, ◌≤◌, ◌<◌}
use native.Mathlib.Nat.{mod-add-div', div-add-mod', mul-le-mul_right, mod-lt}
use native.Mathlib.Omega.{arith}
use lib.Dec.{leb}
use borrow.Author.Tests.{leb-true}
use Rattle.std.proofs.lemmas.Bool.{cases_lt}

-- m * a is at least u above or at least d below each multiple of M; x and y say which one, with no negative number
abbrev Apart : (M a u d m : ℕ) → Type 0
Apart M a u d m = (x y : ℕ) → (y * M + u ≤ m * a + x * M) ⊎ (m * a + x * M + d ≤ y * M)

-- the same with smaller distances
closer : (M a u d v e m : ℕ) → v ≤ u → e ≤ d → Apart M a u d m → Apart M a v e m
closer M a u d v e m p q h x y = ⊎_elim (λ l. inl (omega (arith, l))) (λ l. inr (omega (arith, l))) (h x y)

-- where a + b is a multiple of M, what is above for a is below for b
turned : (M a b t u d m : ℕ) → a + b ≡ t * M → Apart M a u d m → Apart M b d u m
turned M a b t u d m e h x y =
    let p : m * a + m * b ≡ m * t * M = omega (arith, ap (λ (z : ℕ). m * z) e) in
    ⊎_elim (λ l. inr (omega (arith, l))) (λ l. inl (omega (arith, l))) (h y (m * t + x))

-- nothing is between 0 and M
none_between : (M a d : ℕ) → d ≤ M → Apart M a 0 d 0
none_between M a d h x y =
    ⊎_elim
    (λ l. let p : suc x * M ≤ y * M = mul-le-mul_right M l in inr (omega arith))
    (λ l. let p : y * M ≤ x * M = mul-le-mul_right M l in inl (omega arith))
    (cases_lt x y)

-- q * a is v above a multiple of M, so that q more of a go v up
onward : (M a v r q x1 y1 n : ℕ) → q * a + x1 * M ≡ y1 * M + v → Apart M a 0 (r + v) n → Apart M a v r (n + q)
onward M a v r q x1 y1 n e h x y =
    ⊎_elim (λ l. inl (omega (arith, l))) (λ l. inr (omega (arith, l))) (h (x + y1) (y + x1))

-- A state of Euclid's divisions: q1 * a is r1 above a multiple of M, q0 * a is r0 below one, and no factor below q0 + q1 comes nearer on its side.
record State (M a r0 q0 r1 q1 : ℕ) : Type 0 where
  above : (x : ℕ) × (y : ℕ) × (q1 * a + x * M ≡ y * M + r1)
  below : (x : ℕ) × (y : ℕ) × (q0 * a + x * M + r0 ≡ y * M)
  small_0 : r0 ≤ M
  small_1 : r1 ≤ M
  apart : (m : ℕ) → 0 < m → m < q0 + q1 → Apart M a r1 r0 m

-- one subtraction
next : (M a r q0 r1 q1 : ℕ) → State M a (r + r1) q0 r1 q1 → State M a r (q0 + q1) r1 q1
next M a r q0 r1 q1 s = record {
  above = s.above;
  below = (s.below.0 + s.above.0, s.below.1 + s.above.1, omega (arith, s.above.2, s.below.2));
  small_0 = omega (arith, s.small_0);
  small_1 = s.small_1;
  apart = λ m h l.
      ⊎_elim
      (λ k. closer M a r1 (r + r1) r1 r m (omega arith) (omega arith) (s.apart m h k))
      (λ k. let e : m - q1 + q1 ≡ m = omega arith in subst (Apart M a r1 r) e (further (m - q1) (omega arith)))
      (cases_lt m (q0 + q1));
}
  where
    further : (n : ℕ) → n < q0 + q1 → Apart M a r1 r (n + q1)
    further zero l = onward M a r1 r q1 s.above.0 s.above.1 0 s.above.2 (none_between M a (r + r1) s.small_0)
    further (suc n) l =
        onward M a r1 r q1 s.above.0 s.above.1 (suc n) s.above.2
        (closer M a r1 (r + r1) 0 (r + r1) (suc n) (omega arith) (omega arith) (s.apart (suc n) (omega arith) l))

-- k subtractions
steps : (M a k r q0 r1 q1 : ℕ) → State M a (r + k * r1) q0 r1 q1 → State M a r (q0 + k * q1) r1 q1
steps M a zero r q0 r1 q1 s =
    let e : r + 0 * r1 ≡ r = omega arith in
    let f : q0 ≡ q0 + 0 * q1 = omega arith in
    subst (λ (q : ℕ). State M a r q r1 q1) f (subst (λ (z : ℕ). State M a z q0 r1 q1) e s)
steps M a (suc k) r q0 r1 q1 s =
    let e : r + suc k * r1 ≡ r + k * r1 + r1 = omega arith in
    let f : q0 + q1 + k * q1 ≡ q0 + suc k * q1 = omega arith in
    subst (λ (q : ℕ). State M a r q r1 q1) f
    (steps M a k r (q0 + q1) r1 q1 (next M a (r + k * r1) q0 r1 q1 (subst (λ (z : ℕ). State M a z q0 r1 q1) e s)))

-- the same state for b, with the two sides changed
swapped : (M a b t r0 q0 r1 q1 : ℕ) → a + b ≡ t * M → State M a r0 q0 r1 q1 → State M b r1 q1 r0 q0
swapped M a b t r0 q0 r1 q1 e s =
    let p : q0 * a + q0 * b ≡ q0 * t * M = omega (arith, ap (λ (z : ℕ). q0 * z) e) in
    let q : q1 * a + q1 * b ≡ q1 * t * M = omega (arith, ap (λ (z : ℕ). q1 * z) e) in
    record {
      above = (s.below.1, q0 * t + s.below.0, omega (arith, s.below.2));
      below = (s.above.1, q1 * t + s.above.0, omega (arith, s.above.2));
      small_0 = s.small_1;
      small_1 = s.small_0;
      apart = λ m h l. turned M a b t r1 r0 m e (s.apart m h (omega arith));
    }

-- The walk through the divisions: k = r0 / r1, r = r0 % r1, and done says whether the next factor, q0 + k * q1, has come to the limit.
-- If so, r1 is the least distance of the factors below the limit, and it is compared with the bound.
unfoldable pub walk : (limit bound fuel : ℕ) → Bool → (k r q0 r1 q1 : ℕ) → Bool
walk limit bound zero done k r q0 r1 q1 = false
walk limit bound (suc n) true zero r q0 r1 q1 = false
walk limit bound (suc n) true (suc j) r q0 r1 q1 = leb bound r1
walk limit bound (suc n) false k r q0 r1 q1 =
    let q2 = q0 + k * q1 in
    walk limit bound n (leb limit (q1 + r1 / r * q2)) (r1 / r) (r1 % r) q1 r q2

-- the walk from the first division, of M by a, in at most 64 divisions
abbrev pub kept : (limit bound M a : ℕ) → Bool
kept limit bound M a = walk limit bound 64 (leb limit (0 + M / a * 1)) (M / a) (M % a) 0 a 1

-- where the walk says yes, each factor below the limit is the bound away on both sides
sound : (limit bound M fuel : ℕ) (done : Bool) (k r q0 r1 q1 a b t : ℕ) → a + b ≡ t * M → done ≡ leb limit (q0 + k * q1)
    → State M a (r + k * r1) q0 r1 q1 → walk limit bound fuel done k r q0 r1 q1 ≡ true → (m : ℕ) → 0 < m → m < limit → Apart M a bound bound m
unfolding walk
sound limit bound M zero done k r q0 r1 q1 a b t e d s w m h l = absurd (false≢true w)
sound limit bound M (suc n) true zero r q0 r1 q1 a b t e d s w m h l = absurd (false≢true w)
sound limit bound M (suc n) true (suc j) r q0 r1 q1 a b t e d s w m h l =
    let p : bound ≤ r1 = leb-true bound r1 w in
    let g : limit ≤ q0 + suc j * q1 = leb-true limit (q0 + suc j * q1) (sym d) in
    let f : r + suc j * r1 ≡ r + r1 + j * r1 = omega arith in
    let z = steps M a j (r + r1) q0 r1 q1 (subst (λ (y : ℕ). State M a y q0 r1 q1) f s) in
    closer M a r1 (r + r1) bound bound m p (omega arith) (z.apart m h (omega arith))
sound limit bound M (suc n) false k r q0 r1 q1 a b t e d s w m h l =
    let q2 = q0 + k * q1 in
    let z = swapped M a b t r q2 r1 q1 e (steps M a k r q0 r1 q1 s) in
    let f : b + a ≡ t * M = omega arith in
    turned M b a t bound bound m f
    (sound limit bound M n (leb limit (q1 + r1 / r * q2)) (r1 / r) (r1 % r) q1 r q2 b a t f refl
    (subst (λ (y : ℕ). State M b y q1 r q2) (sym (mod-add-div' r1 r)) z) w m h l)

-- the first state
start : (M a : ℕ) → 0 < M → State M a M 0 (a % M) 1
start M a p =
    let d : a / M * M + a % M ≡ a = div-add-mod' a M in
    let l : a % M < M = mod-lt a p in
    record {
      above = (0, a / M, omega arith);
      below = (0, 1, omega arith);
      small_0 = omega arith;
      small_1 = omega arith;
      apart = λ n i k. absurd (omega arith);
    }

-- a is L or more away from every multiple of M
abbrev pub Clear : (M L a : ℕ) → Type 0
Clear M L a = (y : ℕ) → (y * M + L ≤ a) ⊎ (a + L ≤ y * M)

-- The law: where the walk says yes, m * a stays at least the bound away from every multiple of M.
pub kept_away : (limit bound M a : ℕ) → 0 < M → kept limit bound M (a % M) ≡ true → (m : ℕ) → 0 < m → m < limit → Clear M bound (m * a)
kept_away limit bound M a q w m h l y =
    let d : a / M * M + a % M ≡ a = div-add-mod' a M in
    let k : a % M < M = mod-lt a q in
    let e : a + (M - a % M) ≡ suc (a / M) * M = omega arith in
    ⊎_elim (λ p. inl (omega (arith, p))) (λ p. inr (omega (arith, p)))
    (sound limit bound M 64 (leb limit (0 + M / (a % M) * 1)) (M / (a % M)) (M % (a % M)) 0 (a % M) 1 a (M - a % M) (suc (a / M)) e refl
    (subst (λ (y : ℕ). State M a y 0 (a % M) 1) (sym (mod-add-div' M (a % M))) (start M a q)) w m h l 0 y)
