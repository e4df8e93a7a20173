-- What was put down as bytes is what is read there, and bytes that were read are what is put down again: for any number of bytes.
use mathlib.Core.Path.{◌≡◌, refl, sym, ap, ◌∙◌}
use mathlib.Core.Bool.{not}
use mathlib.Core.List.{List, [], ◌∷◌, ◌++◌, append_assoc}
use Prim.Native.Nat.{ℕ, zero, suc, ◌+◌, ◌-◌, ◌*◌, ◌/◌, ◌%◌, ◌^◌, ◌≤◌, ◌<◌}
use native.Mathlib.Nat.{add-zero, zero-add, suc-add, add_assoc, add_comm, div-add-mod', one-le-pow, mod-lt, mod-eq_of_lt, pow-suc, pow-le-pow_right}
use native.Mathlib.Numerals.{add-one, towards_suc}
use native.Mathlib.Omega.{arith}
use lib.Dec.{T}
use lib.Ieee.{Float, nan, inf, fin, binary64, fits, is_nan, to_bits, of_bits}
use lib.Ieee.Bits.{of_bits-to_bits, to_bits-of_bits}
use lib.Ieee.Scale.{finite}
use lib.ListN.{length, take, drop, get_or, set, length-drop, take-append-drop}
use lib.Seq.{drop_at, drop-cons, drop-drop, get_or-drop, length-take-le, sets-eq, take-length}
use Rattle.std.proofs.lemmas.Nat.{pow-add, shl_whole, mul-add-lt, div-mul-add, mod-mul-add}
use Rattle.std.proofs.lemmas.List.{length_push}
use borrow.Rule.Slice.PartMut.{put_mid}
use Rattle.std.specs.Int.{w64, to_be_bytes}
use Rattle.loops.specs.Over.{over}
use Rattle.wire.specs.Wire.{byte_at, uint_at, number_at, one_byte, uint_bytes, number_bytes, AllBytes}

-- ---- lengths

pub uint_length : (n x : ℕ) → length (uint_bytes n x) ≡ n
unfolding uint_bytes
uint_length zero x = refl
uint_length (suc n) x = ap suc (uint_length n _)

pub number_length : (x : Float) → length (number_bytes x) ≡ 8
unfolding number_bytes
number_length x = uint_length 8 (to_bits binary64 x)

-- a byte put down
pub byte_put : (s : List ℕ) (at x : ℕ) → at < length s → set s at x ≡ over s at (one_byte x)
byte_put s at x h = simp towards_suc (simp towards_suc at (sets-eq (one_byte x) s at (omega arith)))

-- what stands behind a part that is put down
pub behind : {A : Type 0} (s : List A) (at n : ℕ) (p q : List A) → drop at s ≡ p ++ q → length p ≡ n → drop (at + n) s ≡ q
behind s at n p q e h = sym (drop-drop n at s) ∙ ap (drop n) e ∙ drop_at p q n h

-- ---- what was put down is read

pub byte_back : (s q : List ℕ) (at x : ℕ) → drop at s ≡ x ∷ q → byte_at s at ≡ x
byte_back s q at x e =
    let z : at ≡ at + 0 = omega arith in
    ap (λ (n : ℕ). get_or s n 0) z ∙ sym (get_or-drop at s 0 0) ∙ ap (λ (l : List ℕ). get_or l 0 0) e

-- of n bytes what fits them, of one byte more then any number
abbrev Back : ℕ → ℕ → Type 0
Back n x = (s q : List ℕ) (at : ℕ) → drop at s ≡ uint_bytes n x ++ q → uint_at n s at ≡ x

back_more : (n : ℕ) → ((x : ℕ) → x < 256 ^ n → Back n x) → (x : ℕ) → Back (suc n) x
unfolding uint_at uint_bytes
back_more n back x s q at e =
    let low = back (x % 256 ^ n) (mod-lt x (one-le-pow n 256 (omega arith))) s q (at + 1) (behind s at 1 (one_byte (x / 256 ^ n)) _ e refl) in
    rw (byte_back s _ at (x / 256 ^ n) e, low) (div-add-mod' x (256 ^ n))

back_fit : (n x : ℕ) → x < 256 ^ n → Back n x
unfolding uint_at
back_fit zero x h = λ s q at e. (let z : 0 ≡ x = omega arith in z)
back_fit (suc n) x h = back_more n (back_fit n) x

pub uint_back : (n x : ℕ) → Back (suc n) x
uint_back n = back_more n (back_fit n)

pub number_back : (s q : List ℕ) (at : ℕ) (x : Float) → T (fits binary64 x) → drop at s ≡ number_bytes x ++ q → number_at s at ≡ x
unfolding number_at number_bytes
number_back s q at x h e = ap (of_bits binary64) (uint_back 7 (to_bits binary64 x) s q at e) ∙ of_bits-to_bits binary64 x h

-- ---- what was read is put down again

pub uint_below : (n : ℕ) (s : List ℕ) (at : ℕ) → AllBytes s → uint_at n s at < 256 ^ n
unfolding uint_at
uint_below zero s at d = omega arith
uint_below (suc n) s at d =
    rw pow-suc (mul-add-lt (byte_at s at) (256 ^ n) (uint_at n s (at + 1)) 256 (d at) (uint_below n s (at + 1) d))

pub byte_again : (s : List ℕ) (at : ℕ) → at < length s → one_byte (byte_at s at) ≡ take 1 (drop at s)
byte_again s at h = rw (drop-cons s at 0 h)

pub uint_again : (n : ℕ) (s : List ℕ) (at : ℕ) → AllBytes s → at + n ≤ length s → uint_bytes n (uint_at n s at) ≡ take n (drop at s)
unfolding uint_at uint_bytes
uint_again zero s at d h = refl
uint_again (suc n) s at d h =
    let low = uint_below n s (at + 1) d in
    let b = byte_at s at in
    let r = uint_at n s (at + 1) in
    rw (div-mul-add b (256 ^ n) r low, mod-mul-add b (256 ^ n) r low, uint_again n s (at + 1) d (omega arith), drop-cons s at 0 (omega arith), add-one)

-- a finite number is no NaN
finite_number : (x : Float) → T (finite x) → T (not (is_nan x))
unfolding is_nan
finite_number nan h = absurd h
finite_number (inf s) h = absurd h
finite_number (fin s m e) h = tt

pub number_again : (s : List ℕ) (at : ℕ) → AllBytes s → at + 8 ≤ length s → T (finite (number_at s at)) → number_bytes (number_at s at) ≡ take 8 (drop at s)
unfolding number_at number_bytes
number_again s at d h f =
    ap (uint_bytes 8) (to_bits-of_bits binary64 (uint_at 8 s at) (uint_below 8 s at d) (finite_number (of_bits binary64 (uint_at 8 s at)) f)) ∙ uint_again 8 s at d h

-- ---- read from the last byte on

weight : (k : ℕ) → 2 ^ (8 * k) ≡ 256 ^ k
weight zero = refl
weight (suc k) =
    let e : 8 * suc k ≡ 8 * k + 8 = omega arith in
    rw (e, pow-add 2 (8 * k) 8, weight k, pow-suc 256 k)

-- of the n bytes from `at` on k are taken, and the rest is to come
pub record Taken (s : List ℕ) (at n k : ℕ) (rest : List ℕ) (x : ℕ) : Type 0 where
  pub places : k + length rest ≡ n
  pub others : List ℕ
  pub there : drop at s ≡ rest ++ others
  pub value : x ≡ uint_at k s (at + length rest)

pub taken_none : (s : List ℕ) (at n : ℕ) (rest : List ℕ) → at + n ≤ length s → rest ≡ take (at + n - at) (drop at s) → Taken s at n 0 rest 0
unfolding uint_at
taken_none s at n rest h e =
    let gap : at + n - at ≡ n = omega arith in
    let size : length rest ≡ n = rw (e, gap) (length-take-le n (drop at s) (omega (arith, length-drop at s))) in
    record { places = rw (zero-add, size); others = drop n (drop at s); there = rw (e, gap) (sym (take-append-drop n (drop at s))); value = refl }

pub taken_more : (s : List ℕ) (at n k b x : ℕ) (rest more : List ℕ) → n ≤ 8 → AllBytes s → Taken s at n k more x → more ≡ rest ++ b ∷ []
    → Taken s at n (k + 1) rest (x + b * 2 ^ (8 * k) % 2 ^ 64)
unfolding uint_at
taken_more s at n k b x rest more few d t e =
    let size : length more ≡ length rest + 1 = ap length e ∙ length_push rest b in
    let left : drop at s ≡ rest ++ (b ∷ t.others) = t.there ∙ ap (λ (l : List ℕ). l ++ t.others) e ∙ append_assoc rest (b ∷ []) t.others in
    let here = byte_back s t.others (at + length rest) b (behind s at (length rest) rest (b ∷ t.others) left refl) in
    let shifted = shl_whole b 8 (8 * k) 64 (rw here at (d (at + length rest))) (let h = t.places in omega arith) in
    record {
      places = (let h = t.places in omega arith);
      others = b ∷ t.others;
      there = left;
      value = rw (shifted, weight k, t.value, add-one, here, size, ← add_assoc at (length rest) 1) (add_comm (uint_at k s (at + length rest + 1)) (b * 256 ^ k));
    }

pub taken_below : (s : List ℕ) (at n k x : ℕ) (rest : List ℕ) → n ≤ 8 → AllBytes s → Taken s at n k rest x → x < 2 ^ 64
taken_below s at n k x rest few d t =
    let most = pow-le-pow_right {n = 256} (omega arith) {i = k} {j = 8} (let p = t.places in omega arith) in
    let small = rw (← t.value) at (uint_below k s (at + length rest) d) in
    omega arith

pub taken_all : (s : List ℕ) (at n k x : ℕ) (rest : List ℕ) → length rest ≡ 0 → Taken s at n k rest x → x ≡ uint_at n s at
taken_all s at n k x rest h t =
    let e : k ≡ n = let p = t.places in omega arith in
    t.value ∙ rw (e, h, add-zero)

-- the last n of more bytes of a number that fits n
last_bytes : (k n x : ℕ) → x < 256 ^ n → drop k (uint_bytes (k + n) x) ≡ uint_bytes n x
unfolding uint_bytes
last_bytes zero n x h = rw zero-add
last_bytes (suc k) n x h =
    let more = pow-le-pow_right {n = 256} (omega arith) {i = n} {j = k + n} (omega arith) in
    rw (suc-add k n, mod-eq_of_lt {n = x} {m = 256 ^ (k + n)} (omega arith), last_bytes k n x h)

be_eight : (x : ℕ) → x < 256 ^ 8 → to_be_bytes w64 x ≡ uint_bytes 8 x
unfolding uint_bytes
be_eight x h = grind arith

-- what `put_uint` puts down
pub uint_put : (n at x : ℕ) (s part all : List ℕ) → n ≤ 8 → at + n ≤ length s → x < 256 ^ n → all ≡ to_be_bytes w64 x
    → part ≡ take (8 - (8 - n)) (drop (8 - n) all) → put_mid at (at + n - at) s part ≡ over s at (uint_bytes n x)
uint_put n at x s part all few there small e p =
    let size = uint_length n x in
    let most = pow-le-pow_right {n = 256} (omega arith) {i = n} {j = 8} few in
    let eight : all ≡ uint_bytes (8 - n + n) x = e ∙ be_eight x (omega arith) ∙ ap (λ (k : ℕ). uint_bytes k x) (let z : 8 ≡ 8 - n + n = omega arith in z) in
    let last : drop (8 - n) all ≡ uint_bytes n x = ap (drop (8 - n)) eight ∙ last_bytes (8 - n) n x small in
    let whole : 8 - (8 - n) ≡ length (uint_bytes n x) = omega arith in
    let own : part ≡ uint_bytes n x = p ∙ rw (last, whole) (take-length (uint_bytes n x)) in
    let gap : at + n - at ≡ length (uint_bytes n x) = omega arith in
    rw (own, gap, drop-drop, append_assoc)
