-- Laws of the answer's text: its digits, and the line at the front of the lent bytes.
use mathlib.Core.Path.{◌≡◌, sym, ap, ◌∙◌}
use mathlib.Core.List.{List, [], ◌∷◌, append-nil}
use Prim.Native.Nat.{ℕ, suc, ◌+◌, ◌/◌, ◌%◌, ◌^◌, ◌≤◌, ◌<◌}
use native.Mathlib.Omega.{arith}
use borrow.Author.Tests.{le-ltb, lt-ltb}
use lib.ListN.{length, take, length-append}
use lib.Seq.{length-take-le}
use Rattle.std.specs.Fmt.{decimal}
use Rattle.std.proofs.lemmas.Fmt.{decimal_from_prepends, length-decimal-le}
use Rattle.loops.specs.Over.{written}
use Rattle.answer.specs.Line.{digit_of, spell, decimal_of}

-- ---- the digits of a number, put down from the last to the first

pub spell_more : (k rest : ℕ) (tail : List ℕ) → 10 ≤ rest → spell (suc k) rest tail ≡ spell k (rest / 10) (digit_of (rest % 10) ∷ tail)
unfolding spell
spell_more k rest tail h = rw (le-ltb rest 10 h)

pub spell_last : (k rest : ℕ) (tail : List ℕ) → rest < 10 → spell (suc k) rest tail ≡ digit_of (rest % 10) ∷ tail
unfolding spell
spell_last k rest tail h = rw (lt-ltb rest 10 h)

spell_one : (k n : ℕ) (tail : List ℕ) → n < 10 → spell (suc k) n tail ≡ (48 + n) ∷ tail
spell_one k n tail h =
    let e : n % 10 ≡ n = omega arith in
    spell_last k n tail h ∙ ap (λ (d : ℕ). digit_of d ∷ tail) e

-- they are what the library prints
pub decimal_is : (n : ℕ) → n < 2 ^ 64 → decimal_of n ≡ decimal n
unfolding decimal_of
decimal_is n h =
    decimal_from_prepends spell (record { one = spell_one; more = spell_more }) 20 n [] h (length-decimal-le 20 n (omega arith) (omega arith) h) ∙ append-nil (decimal n)

-- ---- the line

-- as many bytes as a line has are there, and the part of them that is lent on is as long
module _ (t l m : List ℕ) (r : ℕ) (w : (r ≡ length t) × (m ≡ written t l)) where
  pub line_holds : r ≤ length m
  unfolding written
  line_holds = rw (w.0, w.1, length-append) (omega arith)

  pub line_count : r ≡ length (take r m)
  line_count = sym (length-take-le r m line_holds)
