-- Numbers of magnitude at most 2 ^ k, or n * 2 ^ k, and what the operations make of them: as long as no bound passes 2 ^ 1023 no result overflows.
use mathlib.Core.Path.{◌≡◌, refl, sym, ap, ◌∙◌, subst}
use Prim.Native.Nat.{ℕ, zero, suc, ◌+◌, ◌-◌, ◌*◌, ◌/◌, ◌%◌, ◌^◌, ◌≤◌, ◌<◌, compare}
use native.Mathlib.Nat.{le_trans, le_of_eq, le_of_lt, mod-lt, lt_of_le_of_lt, lt_of_lt_of_le, mul_comm, mul_assoc, mul-one, one-mul, mul-pos, mul-le-mul}
use native.Mathlib.Nat.{mul-le-mul_right, add-mul, div-one, mod-one, div-le_of_le-mul}
use native.Mathlib.Omega.{arith}
use mathlib.Core.Bool.{Bool, true, false, not, cond, ◌&&◌, beq}
use lib.Dec.{T, leb, ltb, leb→le, le→leb, lit<, lit≤}
use lib.Pow.{pow_pos, pow_mono, shl_lt}
use lib.Ieee.{Float, nan, inf, fin, binary64, size, nearest, round, sum, unlike, neg, of_int, to_bits, fits}
use lib.IntN.{pos}
use lib.Bits.{bit_and, and_mask}
use lib.Ieee.Bits.{of_bits-fits, of_bits-to_bits}
use lib.Ieee.Digits.{size-le}
use lib.Ieee.Exact.{units_val}
use lib.Ieee.Fits.{round_is}
use lib.Ieee.Nearest.{closest, closest_mono}
use lib.Ieee.Order.{kept, drop}
use lib.Ieee.Scale.{finite}
use Rattle.number.specs.Operators.{◌⊕◌, ◌⊖◌, ◌⊗◌, bits}
use Rattle.number.specs.Helpers.{abs_of}
use Rattle.number.specs.Units.{units_in_one, mag, neg?}
use Rattle.number.specs.Words.{high_word}
use Rattle.number.proofs.Powers.{pow_sum}
use Rattle.number.proofs.Values.{Is, bits_is, whole, add_is, sub_is, mul_is, neg_is}
use Rattle.number.proofs.Fields.{at, subnormal, normal}

-- x is finite, and at most 2 ^ k in magnitude: ±`units_of` units of 2 ^ -1074
pub record Under (k : ℕ) (x : Float) : Type 0 where
  pub sign : Bool
  pub units_of : ℕ
  pub is : Is x sign units_of
  pub most : units_of ≤ 2 ^ (1074 + k)

pub under_finite : {k : ℕ} {x : Float} → Under k x → T (finite x)
under_finite {k} {x} u = go x u.is
  where
    go : (x : Float) → Is x u.sign u.units_of → T (finite x)
    go nan h = absurd h
    go (inf s) h = absurd h
    go (fin s m e) h = tt

pub lift : {i : ℕ} {x : Float} (k : ℕ) → T (leb i k) → Under i x → Under k x
lift {i} k h u = record {
  sign = u.sign;
  units_of = u.units_of;
  is = u.is;
  most = le_trans u.most (pow_mono {i = 1074 + i} {j = 1074 + k} (let l = leb→le i k h in omega arith));
}

-- ---- numbers of at most n times 2 ^ k

pub record Most (n k : ℕ) (x : Float) : Type 0 where
  pub sign : Bool
  pub units_of : ℕ
  pub is : Is x sign units_of
  pub most : units_of ≤ n * 2 ^ (1074 + k)

pub more_most : {n m k : ℕ} {x : Float} → n ≤ m → Most n k x → Most m k x
more_most {k = k} l u = record { sign = u.sign; units_of = u.units_of; is = u.is; most = le_trans u.most (mul-le-mul_right (2 ^ (1074 + k)) l) }

pub one_most : {k : ℕ} {x : Float} → Under k x → Most 1 k x
one_most {k} u = record { sign = u.sign; units_of = u.units_of; is = u.is; most = le_trans u.most (le_of_eq (sym (one-mul (2 ^ (1074 + k))))) }

-- n times 2 ^ k is at most 2 ^ (k + j)
pub most_under : {n k : ℕ} {x : Float} (j i : ℕ) → n ≤ 2 ^ j → k + j ≡ i → Most n k x → Under i x
most_under {n} {k} j i l e u = record {
  sign = u.sign;
  units_of = u.units_of;
  is = u.is;
  most = le_trans u.most (le_trans (mul-le-mul_right (2 ^ (1074 + k)) l) (le_of_eq (pow_sum j (1074 + k) (1074 + i) (omega (arith, e)))));
}

-- ---- rounding a fraction of at most n * 2 ^ K units gives at most n * 2 ^ K units, for an n that binary64 holds
closest_one : (m : ℕ) → closest m 1 ≡ m
closest_one m = ap (λ (k : ℕ). nearest k (compare (m % 1 * 2) 1)) (div-one m) ∙ ap (λ (k : ℕ). nearest m (compare (k * 2) 1)) (mod-one m)

module _ (N c n K : ℕ) (C : 0 < c) (s : n < 2 ^ 53) (h : N ≤ n * 2 ^ K * c) where
  few_dropped : drop 53 N c ≤ K
  few_dropped =
      cut (size (N / c))
      (size-le (N / c) (53 + K) (lt_of_le_of_lt (div-le_of_le-mul c (le_trans h (le_of_eq (mul_comm (n * 2 ^ K) c)))) (shl_lt 53 K s)))
    where
      cut : (z : ℕ) → z ≤ 53 + K → z - 53 ≤ K
      cut z l = omega arith

  grid_le : kept 53 N c * 2 ^ drop 53 N c ≤ n * 2 ^ K
  grid_le =
      let d = drop 53 N c in
      let a = n * 2 ^ (K - d) in
      let e : a * 2 ^ d ≡ n * 2 ^ K = mul_assoc n (2 ^ (K - d)) (2 ^ d) ∙ ap (λ (i : ℕ). n * i) (pow_sum (K - d) d K (back d few_dropped)) in
      let g : a * (c * 2 ^ d) ≡ n * 2 ^ K * c = ap (λ (k : ℕ). a * k) (mul_comm c (2 ^ d)) ∙ sym (mul_assoc a (2 ^ d) c) ∙ ap (λ (k : ℕ). k * c) e in
      let l : N * 1 ≤ a * (c * 2 ^ d) = le_trans (le_of_eq (mul-one N)) (le_trans h (le_of_eq (sym g))) in
      let m = le_trans (closest_mono N (c * 2 ^ d) a 1 (mul-pos C (pow_pos d)) (lit< tt) l) (le_of_eq (closest_one a)) in
      le_trans (mul-le-mul_right (2 ^ d) m) (le_of_eq e)
    where
      back : (d : ℕ) → d ≤ K → K - d + d ≡ K
      back d l = omega arith

-- n is below 2 ^ j, and what is at most n * 2 ^ k does not overflow
round_most : (j : ℕ) (s : Bool) (a c n k : ℕ) → 0 < c → n < 2 ^ j → j ≤ 53 → j + k ≤ 1024 → a * units_in_one ≤ n * 2 ^ (1074 + k) * c
    → Most n k (round binary64 s a c)
round_most j s a c n k C S J K h =
    let N = a * units_in_one in
    let l = grid_le N c n (1074 + k) C (lt_of_lt_of_le S (pow_mono {i = j} {j = 53} J)) h in
    record {
      sign = s;
      units_of = kept 53 N c * 2 ^ drop 53 N c;
      is = subst (λ (y : Float). Is y s (kept 53 N c * 2 ^ drop 53 N c)) (sym (round_is binary64 s a c))
          (units_val binary64 s (kept 53 N c) (drop 53 N c)
          (lt_of_le_of_lt l (lt_of_lt_of_le (shl_lt j (1074 + k) S) (pow_mono {i = j + (1074 + k)} {j = 1074 + 1024} (omega arith)))));
      most = l;
    }

pub round_under : (s : Bool) (n c k : ℕ) → 0 < c → k ≤ 1023 → n * units_in_one ≤ 2 ^ (1074 + k) * c → Under k (round binary64 s n c)
round_under s n c k C K h =
    most_under 0 k (lit≤ tt) (omega arith)
    (round_most 1 s n c 1 k C (lit< tt) (lit≤ tt) (omega arith) (subst (λ (x : ℕ). n * units_in_one ≤ x * c) (sym (one-mul (2 ^ (1074 + k)))) h))

-- ---- sums and differences
cond_is : (P : Float → Type 0) (b : Bool) {u v : Float} → P u → P v → P (cond b u v)
cond_is P true p q = p
cond_is P false p q = q

module _ {n m k : ℕ} {x y : Float} (j : ℕ) (l : n + m < 2 ^ j) (J : T (leb j 53)) (K : T (leb (j + k) 1024)) (u : Most n k x) (v : Most m k y) where
  sum_most : (s t : Bool) → Most (n + m) k (sum binary64 s u.units_of t v.units_of units_in_one)
  unfolding sum
  sum_most s t =
      let a = u.units_of in
      let b = v.units_of in
      cond_is (Most (n + m) k) (beq s t) (at s (a + b) (omega arith))
      (cond_is (Most (n + m) k) (ltb a b) (at t (b - a) (omega arith)) (at (s && ltb b a) (a - b) (omega arith)))
    where
      added : (a b c d : ℕ) → a ≤ c → b ≤ d → a + b ≤ c + d
      added a b c d p q = omega arith

      both : u.units_of + v.units_of ≤ (n + m) * 2 ^ (1074 + k)
      both =
          le_trans (added u.units_of v.units_of (n * 2 ^ (1074 + k)) (m * 2 ^ (1074 + k)) u.most v.most) (le_of_eq (sym (add-mul n m (2 ^ (1074 + k)))))

      at : (s : Bool) (c : ℕ) → c ≤ u.units_of + v.units_of → Most (n + m) k (round binary64 s c units_in_one)
      at s c g =
          round_most j s c units_in_one (n + m) k (pow_pos 1074) l (leb→le j 53 J) (leb→le (j + k) 1024 K) (mul-le-mul_right units_in_one (le_trans g both))

  pub add_most : Most (n + m) k (x ⊕ y)
  add_most = subst (Most (n + m) k) (sym (add_is x y u.sign v.sign u.units_of v.units_of u.is v.is)) (sum_most u.sign v.sign)

  pub sub_most : Most (n + m) k (x ⊖ y)
  sub_most = subst (Most (n + m) k) (sym (sub_is x y u.sign v.sign u.units_of v.units_of u.is v.is)) (sum_most u.sign (not v.sign))

module _ {i j : ℕ} {x y : Float} (k : ℕ) (p : T (leb i k)) (q : T (leb j k)) (r : T (leb k 1022)) (u : Under i x) (v : Under j y) where
  twice : {z : Float} → Most 2 k z → Under (suc k) z
  twice = most_under 1 (suc k) (lit≤ tt) (omega arith)

  room : T (leb (2 + k) 1024)
  room = le→leb (2 + k) 1024 (let l = leb→le k 1022 r in omega arith)

  pub plus : Under (suc k) (x ⊕ y)
  plus = twice (add_most 2 (lit< tt) tt room (one_most (lift k p u)) (one_most (lift k q v)))

  pub minus : Under (suc k) (x ⊖ y)
  minus = twice (sub_most 2 (lit< tt) tt room (one_most (lift k p u)) (one_most (lift k q v)))

-- ---- products
product : (l i j a b : ℕ) → a ≤ 2 ^ (l + i) → b ≤ 2 ^ (l + j) → a * b * 2 ^ l ≤ 2 ^ (l + (i + j)) * (2 ^ l * 2 ^ l)
product l i j a b p q =
    le_trans (mul-le-mul_right (2 ^ l) (mul-le-mul p q))
    (le_of_eq
    (ap (λ (n : ℕ). n * 2 ^ l) (pow_sum (l + i) (l + j) (l + (i + j) + l) (omega arith) ∙ sym (pow_sum (l + (i + j)) l (l + (i + j) + l) refl))
    ∙ mul_assoc (2 ^ (l + (i + j))) (2 ^ l) (2 ^ l)))

pub times : {i j : ℕ} {x y : Float} → T (leb (i + j) 1023) → Under i x → Under j y → Under (i + j) (x ⊗ y)
times {i} {j} {x} {y} r u v =
    subst (Under (i + j)) (sym (mul_is x y u.sign v.sign u.units_of v.units_of u.is v.is))
    (round_under (unlike u.sign v.sign) (u.units_of * v.units_of) (units_in_one * units_in_one) (i + j) (mul-pos (pow_pos 1074) (pow_pos 1074))
    (leb→le (i + j) 1023 r) (product 1074 i j u.units_of v.units_of u.most v.most))

-- ---- the sign, whole numbers, constants
pub neg_under : {k : ℕ} {x : Float} → Under k x → Under k (neg x)
neg_under {k} {x} u = record { sign = not u.sign; units_of = u.units_of; is = neg_is x u.sign u.units_of u.is; most = u.most }

pub abs_under : {k : ℕ} {x : Float} → Under k x → Under k (abs_of x)
abs_under {k} {x} u = record { sign = false; units_of = u.units_of; is = go x u.is; most = u.most }
  where
    go : (x : Float) → Is x u.sign u.units_of → Is (abs_of x) false u.units_of
    go nan h = absurd h
    go (inf s) h = absurd h
    go (fin s m e) h = unfold abs_of in (refl, h.1)

pub counted : (n k : ℕ) → k ≤ 1023 → n ≤ 2 ^ k → Under k (of_int binary64 (pos n))
unfolding of_int
counted n k K h =
    round_under false n 1 k (lit< tt) K
    (le_trans (mul-le-mul_right (2 ^ 1074) h) (le_of_eq (pow_sum k 1074 (1074 + k) (omega arith) ∙ sym (mul-one (2 ^ (1074 + k))))))

pub constant : (b k : ℕ) → T (finite (bits b)) → T (leb (mag (bits b)) (2 ^ (1074 + k))) → Under k (bits b)
constant b k f h = record {
  sign = neg? (bits b);
  units_of = mag (bits b);
  is = whole (bits b) (of_bits-fits binary64 b) f;
  most = leb→le (mag (bits b)) (2 ^ (1074 + k)) h;
}

-- ---- a number by its exponent's field: below 2 ^ (k + 1) where the field is at most 1023 + k
field_under : (s : Bool) (e t k : ℕ) → t < 2 ^ 52 → e ≤ 1023 + k → k ≤ 1022 → Under (suc k) (at s e t)
field_under s zero t k h l m = record {
  sign = s;
  units_of = t;
  is = subnormal s t;
  most = le_trans (le_of_lt h) (pow_mono {i = 52} {j = 1074 + suc k} (omega arith));
}
field_under s (suc x) t k h l m = record {
  sign = s;
  units_of = (2 ^ 52 + t) * 2 ^ x;
  is = normal s x t (omega arith);
  most = le_trans (le_of_lt (shl_lt 53 x (omega arith))) (pow_mono {i = 53 + x} {j = 1074 + suc k} (omega arith));
}

pub bits_under : (b k : ℕ) → b % 2 ^ 63 / 2 ^ 52 ≤ 1023 + k → k ≤ 1022 → Under (suc k) (bits b)
bits_under b k h m =
    subst (Under (suc k)) (sym (bits_is b)) (field_under (leb (2 ^ 63) b) (b % 2 ^ 63 / 2 ^ 52) (b % 2 ^ 52) k (mod-lt b (pow_pos 52)) h m)

-- and by its high word
pub word_under : (x : Float) (k : ℕ) → T (fits binary64 x) → high_word x < (1024 + k) * 2 ^ 20 → k ≤ 1022 → Under (suc k) x
word_under x k f h m =
    let b = to_bits binary64 x in
    subst (Under (suc k)) (of_bits-to_bits binary64 x f) (bits_under b k (exponent b h) m)
  where
    exponent : (b : ℕ) → bit_and (b / 2 ^ 32) 0x7fffffff < (1024 + k) * 2 ^ 20 → b % 2 ^ 63 / 2 ^ 52 ≤ 1023 + k
    exponent b h = omega (arith, and_mask (b / 2 ^ 32) 31)
