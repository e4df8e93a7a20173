-- The root of a finite number above 0, taken apart: with n = mag x * unit, the exact root in units squared, n is M * 4 ^ j, and the result is the whole number g
-- nearest to M's root, with j zeros after it. Every law about the square root follows from that.
use Rattle.std.proofs.Common.{◌≡◌, ℕ, zero, suc, ◌+◌, ◌-◌, ◌*◌, ◌/◌, ◌%◌, ◌^◌, ◌<◌, ◌≤◌, Bool, false, T, sym, ap, ◌∙◌, subst, le_trans, le_of_eq, lt_of_lt_of_le, le_of_suc-le-suc, lt_irrefl, zero-lt-suc, add-sub_of_le, mul-le-mul, mul-lt-mul_of_pos_right, lt_of_not-le, zero-mul, not-le_of_lt, arith, lit≤, pow_pos, pow_mono}
use lib.Count.{count_leading_zeros}
use lib.Ieee.{Float, binary64, units, fits}
use lib.Ieee.Exact.{units_val}
use lib.Ieee.Scale.{finite}
use Rattle.number.specs.Units.{units_in_one, mag, neg?}
use Rattle.number.proofs.Values.{Is, is_own_lem, whole, held, below_top}
use Rattle.sqrt.specs.Sqrt.{sqrt_of, floor_root, round_root}
use Rattle.sqrt.specs.Nearest.{Nearest}
use Rattle.sqrt.proofs.Root.{IsRoot, floor_root_is, nearest_up, nearest_down}
use Rattle.sqrt.proofs.Rounded.{rounded, digits_lo, digits_hi}
use Rattle.sqrt.proofs.Pattern.{under_top}
use Rattle.sqrt.proofs.Scale.{split, doubled, in_range, shifted, scaled}
use Rattle.sqrt.proofs.Fields.{sqrt_value}

pub record Shape (x : Float) : Type 0 where
  pub M : ℕ
  pub j : ℕ
  pub g : ℕ
  pub is : mag x * units_in_one ≡ M * (2 ^ j * 2 ^ j)
  pub above : 2 ^ 104 ≤ M
  pub near : Nearest M g
  pub lo : 2 ^ 52 ≤ g
  pub hi : g ≤ 2 ^ 53
  pub few : j ≤ 1533
  pub root : sqrt_of x ≡ units binary64 false g j

-- every whole number above 0 has a nearest whole root
module _ (M : ℕ) (P : 0 < M) where
  abbrev q : ℕ
  q = floor_root M

  rest : q * q + (M - q * q) ≡ M
  rest = add-sub_of_le (floor_root_is M).0

  nearest_root : (g : ℕ) × Nearest M g
  nearest_root = go (native.Mathlib.Decide.dec_le (M - q * q) q)
    where
      rest_le : (M q : ℕ) → IsRoot M q → M - q * q ≤ 2 * q
      rest_le M q h = omega arith

      go : Dec (M - q * q ≤ q) → (g : ℕ) × Nearest M g
      go (yes h) = (q, nearest_down M q (M - q * q) P rest h)
      go (no h) = (q + 1, nearest_up M q (M - q * q) rest (rest_le M q (floor_root_is M)) (lt_of_not-le h))

-- a finite number is below 2 ^ 2098 units (`below_top`), so its root has few zeros
few_zeros : (n M j : ℕ) → n ≡ M * (2 ^ j * 2 ^ j) → 2 ^ 104 ≤ M → n < 2 ^ 2098 * units_in_one → j ≤ 1533
few_zeros n M j e lo h =
    le_of_suc-le-suc (lt_of_not-le (λ (l : 1534 ≤ j).
    let k = pow_mono {i = 1534} l in
    not-le_of_lt h (le_trans (lit≤ {m = 2 ^ 2098 * units_in_one} {n = 2 ^ 104 * (2 ^ 1534 * 2 ^ 1534)} tt) (le_trans (mul-le-mul lo (mul-le-mul k k)) (le_of_eq (sym e))))))

pos_first : (p i a : ℕ) → 0 < a → a ≡ p * 2 ^ i → 0 < p
pos_first zero i a A e = absurd (lt_irrefl 0 (subst (λ (k : ℕ). 0 < k) (e ∙ zero-mul (2 ^ i)) A))
pos_first (suc p) i a A e = zero-lt-suc p

pub own : (x : Float) → T (fits binary64 x) → T (finite x) → neg? x ≡ false → Is x false (mag x)
own x f h s = subst (λ (t : Bool). Is x t (mag x)) s (whole x f h)

pub shape : (x : Float) → T (fits binary64 x) → T (finite x) → neg? x ≡ false → 0 < mag x → Shape x
shape x f h s A =
    let w = held x f h in
    let p = w.0 in
    let i = w.1 in
    let z = count_leading_zeros 64 p - 11 in
    let sh = (shifted p (pos_first p i (mag x) A w.3) w.2).1 in
    let m = p * 2 ^ z in
    let G = i + 1022 - z in
    let M = m * 2 ^ (G % 2) * 2 ^ 52 in
    let j = G / 2 in
    let r = in_range (m * 2 ^ (G % 2)) (doubled m (G % 2) sh.lo sh.hi (half G)) in
    let e : mag x * units_in_one ≡ M * (2 ^ j * 2 ^ j) = ap (λ (a : ℕ). a * units_in_one) w.3 ∙ scaled p i z sh.few ∙ split m G in
    let g = nearest_root M (lt_of_lt_of_le (pow_pos 104) r.0) in
    record {
      M = M;
      j = j;
      g = g.0;
      is = e;
      above = r.0;
      near = g.1;
      lo = digits_lo M j g.0 r.0 r.1 g.1;
      hi = digits_hi M j g.0 r.0 r.1 g.1;
      few = few_zeros (mag x * units_in_one) M j e r.0 (mul-lt-mul_of_pos_right (below_top x false (mag x) f (own x f h s)) (pow_pos 1074));
      root = sqrt_value x (mag x) A (own x f h s) ∙ ap round_root e ∙ rounded M j g.0 r.0 r.1 g.1;
    }
  where
    half : (g : ℕ) → g % 2 < 2
    half g = omega arith

-- how many units the root has
pub root_is : (x : Float) (s : Shape x) → Is (sqrt_of x) false (s.g * 2 ^ s.j)
root_is x s = subst (λ (y : Float). Is y false (s.g * 2 ^ s.j)) (sym s.root) (units_val binary64 false s.g s.j (under_top s.g s.j s.hi s.few))

pub root_mag : (x : Float) (s : Shape x) → mag (sqrt_of x) ≡ s.g * 2 ^ s.j
root_mag x s = (is_own_lem (sqrt_of x) false (s.g * 2 ^ s.j) (root_is x s)).1
