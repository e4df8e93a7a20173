-- The walk asks for no stride above 0.1, and 37 halvings leave none untried: under a fit tolerance any number from 37 on gives the same.
use Rattle.std.specs.Prelude.{Option, Some, None}
use mathlib.Core.Path.{◌≡◌, refl, sym, ap, ◌∙◌}
use mathlib.Core.Logic.{inl, inr}
use mathlib.Core.Bool.{Bool, true, false, not}
use Prim.Native.Nat.{ℕ, zero, suc, ◌+◌, ◌*◌, ◌^◌, ◌≤◌, ◌<◌}
use native.Mathlib.Omega.{arith}
use native.Mathlib.Nat.{le_trans, le_of_eq, lt_of_not-le, not-le_of_lt, eq-or-lt_of_le, mul_assoc, mul-one}
use denote.Floats.{passes}
use lib.Dec.{T, lit≤, lit<}
use lib.Pow.{pow-add, pow_mono}
use lib.Ieee.{Float, nan, inf, fin, binary64, of_bits, fits, is_nan}
use lib.Ieee.Fits.{mul-fits}
use lib.Ieee.Positive.{positive-finite, between}
use lib.Ieee.Scale.{finite}
use Rattle.loops.specs.Loop.{pick, Flow, on, out, searched}
use Rattle.loops.proofs.Loop.{Kept, searched_end, searched_leave, searched_out, searched_step}
use Rattle.number.specs.Operators.{◌⊗◌, ◌≤?◌}
use Rattle.number.specs.Units.{mag, neg?}
use Rattle.number.specs.Helpers.{two, half, min_of}
use Rattle.number.proofs.Values.{Is, is_own_lem}
use Rattle.number.proofs.Order.{le_through, le_numbers, le→mag}
use Rattle.number.proofs.Order.{min_left, min_right}
use Rattle.number.proofs.Scaling.{unsigned, half_exact}
use Rattle.geometry.specs.declared.tolerance.Tolerance.{Tolerance}
use Rattle.geometry.specs.Tolerance.{least_confusion, tolerance_fit}
use Rattle.gap.proofs.Gap.{fit_tolerance, least_under}
use Rattle.patch.specs.declared.patch.Patch.{Patch}
use Rattle.step.specs.declared.attempt.Walker.{Walker}
use Rattle.step.specs.declared.attempt.Stride.{Stride}
use Rattle.step.specs.Attempt.{attempt_of}
use Rattle.step.specs.Shorten.{longest_stride, after_attempt, stride_body, no_stride, halvings, most_halvings, stride_of}
use Rattle.step.specs.Closing.{first_stride, next_stride}

-- ---- the strides that the walk asks for

pub tenth_number : T (not (is_nan longest_stride))
unfolding of_bits is_nan
tenth_number = tt

pub first_short : (confusion : Float) → T (first_stride confusion ≤? longest_stride)
unfolding first_stride
first_short confusion = min_right _ longest_stride tenth_number

pub next_short : (confusion h curvature : Float) → T (next_stride confusion h curvature ≤? longest_stride)
unfolding next_stride
next_short confusion h curvature =
    let m = min_right (two ⊗ h) longest_stride tenth_number in
    le_through _ (min_of (two ⊗ h) longest_stride) longest_stride (min_left (min_of (two ⊗ h) longest_stride) _ (le_numbers _ _ m).0) m

-- ---- a stride halved

tenth_small : mag longest_stride < 2 ^ 1071
unfolding of_bits
tenth_small = lit< tt

is_finite : (x : Float) (s : Bool) (n : ℕ) → Is x s n → T (finite x)
is_finite nan s n i = i
is_finite (inf t) s n i = i
is_finite (fin t m d) s n i = tt

-- a stride of at most 0.1 after i halvings, if it is still at least confusion
record Halved (confusion : Float) (i : ℕ) (h : Float) : Type 0 where
  fit : T (fits binary64 h)
  small : T (confusion ≤? h) → T (finite h) × (mag h * 2 ^ i ≤ mag longest_stride)

module _ (confusion : Float) (low : T (least_confusion ≤? confusion)) where
  at_least : (h : Float) → T (confusion ≤? h) → T (least_confusion ≤? h)
  at_least h l = le_through least_confusion confusion h low l

  whole : (h : Float) → T (fits binary64 h) → T (h ≤? longest_stride) → Halved confusion 0 h
  whole h f l = record {
    fit = f;
    small = λ t.
        let p = between least_confusion h longest_stride (unfold of_bits in tt) (unfold of_bits in tt) (at_least h t) l in
        (positive-finite h p, le_trans (le_of_eq (mul-one (mag h))) (le→mag h longest_stride (positive-finite h p) (unfold of_bits in tt) (unsigned h p) l));
  }

  module _ (i : ℕ) (h : Float) (v : Halved confusion i h) (l : T (confusion ≤? h)) where
    large : 2 ^ 1034 ≤ mag h
    large = least_under h (v.small l).0 (at_least h l)

    -- fewer than 37 halvings led here
    below : i < 37
    below = lt_of_not-le (λ (g : 37 ≤ i). not-le_of_lt tenth_small
        (le_trans (le_trans (lit≤ {m = 2 ^ 1071} {n = 2 ^ 1034 * 2 ^ 37} tt) (native.Mathlib.Nat.mul-le-mul {n₁ = 2 ^ 1034} {m₁ = 2 ^ 37} large (pow_mono g))) (v.small l).1))

    again : Halved confusion (i + 1) (h ⊗ half)
    again =
        let e = half_exact h v.fit (v.small l).0 (le_trans (lit≤ {m = 2 ^ 53} {n = 2 ^ 1034} tt) large) in
        record {
          fit = mul-fits binary64 h half;
          small = λ t. (
            is_finite (h ⊗ half) (neg? h) e.0 e.2,
            le_trans (le_of_eq (scaled (mag (h ⊗ half)) e.0 (mag h) i (is_own_lem (h ⊗ half) (neg? h) e.0 e.2).1 e.1)) (v.small l).1,
          );
        }
      where
        scaled : (g k m i : ℕ) → g ≡ k → m ≡ k * 2 → g * 2 ^ (i + 1) ≡ m * 2 ^ i
        scaled g k m i p q =
            ap (λ (n : ℕ). n * 2 ^ (i + 1)) p
            ∙ ap (λ (n : ℕ). k * n) (pow-add 2 i 1 ∙ native.Mathlib.Nat.mul_comm (2 ^ i) (2 ^ 1))
            ∙ sym (mul_assoc k 2 (2 ^ i))
            ∙ ap (λ (n : ℕ). n * 2 ^ i) (sym q)

-- ---- the loop

module _ (a b : Patch) (tol : Tolerance) (dir : Float) (w : Walker) (fit : T (tolerance_fit tol)) where
  low : T (least_confusion ≤? tol.confusion)
  low = (fit_tolerance tol fit).0

  abbrev Going : ℕ → Flow Float (Option Stride) → Type 0
  Going i = Kept (Halved tol.confusion i) (λ (r : Option Stride). T true)

  goes : (i : ℕ) (h : Float) → Halved tol.confusion i h → Going (i + 1) (stride_body a b tol dir w i h)
  goes i h v = choice (tol.confusion ≤? h) refl
    where
      after : T (tol.confusion ≤? h) → (r : Option Stride) → Going (i + 1) (after_attempt h r)
      after l (Some stride) = tt
      after l None = again tol.confusion low i h v l

      choice : (t : Bool) → (tol.confusion ≤? h) ≡ t → Going (i + 1) (pick t (after_attempt h (attempt_of a b tol dir w h)) (out None))
      choice true e = after (passes _ e) (attempt_of a b tol dir w h)
      choice false e = tt

  abbrev run : ℕ → ℕ → Flow Float (Option Stride) → Option Stride
  run i n x = searched (stride_body a b tol dir w) no_stride i n x

  -- after 37 halvings, however many may follow, no stride is left
  spent : (n i : ℕ) (h : Float) → Halved tol.confusion i h → 37 ≤ i → i ≤ n → halvings a b tol dir w i n h ≡ None
  spent n i h v l k = choice (tol.confusion ≤? h) refl
    where
      choice : (t : Bool) → (tol.confusion ≤? h) ≡ t → halvings a b tol dir w i n h ≡ None
      choice true e = absurd (not-le_of_lt (below tol.confusion low i h v (passes _ e)) l)
      choice false e = elim (eq-or-lt_of_le k) [
        | inl d ↦ searched_end (stride_body a b tol dir w) no_stride i n h (le_of_eq (sym d))
        | inr d ↦ sym (searched_leave (stride_body a b tol dir w) no_stride i n d (rw e) refl)
      ]

  pub enough : (n : ℕ) (h : Float) → 37 ≤ n → T (fits binary64 h) → T (h ≤? longest_stride) → halvings a b tol dir w 0 n h ≡ stride_of a b tol dir w h
  unfolding stride_of
  enough n h l f s = go 37 0 refl (on h) (whole tol.confusion low h f s)
    where
      go : (k i : ℕ) → i + k ≡ 37 → (x : Flow Float (Option Stride)) → Going i x → run i n x ≡ run i most_halvings x
      go zero i e (on h) v = spent n i h v (omega arith) (omega arith) ∙ sym (spent 37 i h v (omega arith) (omega arith))
      go zero i e (out r) v = searched_out _ _ i n r ∙ sym (searched_out _ _ i 37 r)
      go (suc k) i e (on h) v =
          searched_step _ _ i n h (omega arith) ∙ go k (i + 1) (omega arith) (stride_body a b tol dir w i h) (goes i h v) ∙ sym (searched_step _ _ i 37 h (omega arith))
      go (suc k) i e (out r) v = searched_out _ _ i n r ∙ sym (searched_out _ _ i 37 r)
