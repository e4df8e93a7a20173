-- Numbers one behind the other, in a list of bytes: what the loops over them keep.
use mathlib.Core.Path.{◌≡◌, refl, sym, ap, ap₂, ◌∙◌}
use mathlib.Core.List.{List, [], ◌∷◌, ◌++◌, map, append-nil, append_assoc}
use Prim.Native.Nat.{ℕ, zero, suc, ◌+◌, ◌*◌, ◌≤◌, ◌<◌}
use native.Mathlib.Numerals.{add-one}
use native.Mathlib.Omega.{arith}
use lib.Ieee.{Float, nan}
use lib.ListN.{length, take, drop, get_or, set, length-append}
use lib.Seq.{drop-drop, get_or-drop, get_or-take, length-take-le, take-suc}
use Rattle.std.specs.Simd.{first_chunks}
use Rattle.number.specs.Operators.{bits}
use Rattle.std.proofs.lemmas.Grind.{common_steps}
use Rattle.std.proofs.lemmas.List.{same_lists}
use Rattle.loops.specs.Over.{over}
use Rattle.loops.proofs.Over.{over_nothing, over_next}
use Rattle.wire.specs.Wire.{uint_at, number_at, numbers_from, number_bytes, numbers_bytes}
use Rattle.wire.proofs.Laws.{number_length}

-- ---- read from bytes

pub from_length : (s : List ℕ) (at n : ℕ) → length (numbers_from s at n) ≡ n
unfolding numbers_from
from_length s at zero = refl
from_length s at (suc n) = ap suc (from_length s (at + 8) n)

pub from_at : (s : List ℕ) (at n k : ℕ) (d : Float) → k < n → get_or (numbers_from s at n) k d ≡ number_at s (at + 8 * k)
unfolding numbers_from
from_at s at zero k d h = absurd (omega arith)
from_at s at (suc n) zero d h = ap (number_at s) (omega arith)
from_at s at (suc n) (suc k) d h = from_at s (at + 8) n k d (omega arith) ∙ ap (number_at s) (omega arith)

-- they are told one by one
pub from_each : (s : List ℕ) (at n : ℕ) (l : List Float) → length l ≡ n → ((k : ℕ) (d : Float) → k < n → get_or l k d ≡ number_at s (at + 8 * k)) → l ≡ numbers_from s at n
from_each s at n l e each =
    let size = from_length s at n in
    same_lists l (numbers_from s at n) (omega arith) (λ k d h. each k d (omega arith) ∙ sym (from_at s at n k d (omega arith)))

-- the first k of a list are those that stand from `at` on
abbrev pub Filled : List ℕ → ℕ → List Float → ℕ → Type 0
Filled s at l k = (j : ℕ) (d : Float) → j < k → get_or l j d ≡ number_at s (at + 8 * j)

pub filled_more : (s : List ℕ) (at : ℕ) (l : List Float) (k : ℕ) (x : Float) → k < length l → Filled s at l k → x ≡ number_at s (at + 8 * k) → Filled s at (set l k x) (k + 1)
filled_more s at l k x h i e j d b = grind (arith, common_steps, i j d)

-- the numbers of a part that starts at `at`, and of eight bytes taken out
uint_part : (n m k : ℕ) (s : List ℕ) (at : ℕ) → k + n ≤ m → uint_at n (take m (drop at s)) k ≡ uint_at n s (at + k)
unfolding uint_at
uint_part zero m k s at h = refl
uint_part (suc n) m k s at h =
    let here : get_or (take m (drop at s)) k 0 ≡ get_or s (at + k) 0 = get_or-take m (drop at s) k 0 (omega arith) ∙ get_or-drop at s k 0 in
    let next : at + (k + 1) ≡ at + k + 1 = omega arith in
    rw (here, uint_part n m (k + 1) s at (omega arith), next)

number_part : (s : List ℕ) (at : ℕ) → number_at (take 8 (drop at s)) 0 ≡ number_at s at
unfolding number_at
number_part s at = ap bits (uint_part 8 8 0 s at (omega arith) ∙ ap (uint_at 8 s) (let e : at + 0 ≡ at = omega arith in e))

-- eight bytes each, as a slice hands them out
pub numbers_chunked : (s : List ℕ) (at n : ℕ) → map (λ (b : List ℕ). number_at b 0) (first_chunks 8 n (drop at s)) ≡ numbers_from s at n
unfolding numbers_from
numbers_chunked s at zero = refl
numbers_chunked s at (suc n) =
    ap₂ ◌∷◌ (number_part s at)
    (ap (λ (t : List ℕ). map (λ (b : List ℕ). number_at b 0) (first_chunks 8 n t)) (drop-drop 8 at s) ∙ numbers_chunked s (at + 8) n)

-- ---- put down as bytes

pub numbers_length : (l : List Float) → length (numbers_bytes l) ≡ 8 * length l
unfolding numbers_bytes
numbers_length [] = refl
numbers_length (x ∷ l) = length-append (number_bytes x) (numbers_bytes l) ∙ (let a = number_length x in let b = numbers_length l in omega arith)

numbers_append : (l m : List Float) → numbers_bytes (l ++ m) ≡ numbers_bytes l ++ numbers_bytes m
unfolding numbers_bytes
numbers_append [] m = refl
numbers_append (x ∷ l) m = ap (λ (s : List ℕ). number_bytes x ++ s) (numbers_append l m) ∙ sym (append_assoc (number_bytes x) (numbers_bytes l) (numbers_bytes m))

-- one number more
numbers_more : (l : List Float) (k : ℕ) → k < length l → numbers_bytes (take (k + 1) l) ≡ numbers_bytes (take k l) ++ number_bytes (get_or l k nan)
unfolding numbers_bytes
numbers_more l k h =
    ap numbers_bytes (ap (λ (n : ℕ). take n l) (add-one k) ∙ take-suc l k nan h) ∙ numbers_append (take k l) (get_or l k nan ∷ [])
    ∙ ap (λ (s : List ℕ). numbers_bytes (take k l) ++ s) (append-nil (number_bytes (get_or l k nan)))

-- the bytes put down so far, and one number more
module _ (s : List ℕ) (at : ℕ) (l : List Float) where
  pub put_start : s ≡ over s at (numbers_bytes (take 0 l))
  unfolding numbers_bytes
  put_start = sym (over_nothing s at)

  pub put_again : (k : ℕ) {t t' : List ℕ} → k < length l → at + 8 * (k + 1) ≤ length s → t ≡ over s at (numbers_bytes (take k l))
      → t' ≡ over t (at + 8 * k) (number_bytes (get_or l k nan)) → t' ≡ over s at (numbers_bytes (take (k + 1) l))
  put_again k {t} {t'} h r e f =
      let xs = numbers_bytes (take k l) in
      let x = number_bytes (get_or l k nan) in
      let n : length xs ≡ 8 * k = numbers_length (take k l) ∙ ap (λ (j : ℕ). 8 * j) (length-take-le k l (omega arith)) in
      let m = number_length (get_or l k nan) in
      over_next s at (8 * k) xs x n (omega arith) e f ∙ ap (over s at) (sym (numbers_more l k h))
