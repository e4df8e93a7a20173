use Rattle.std.proofs.Common.{Err, List, ◌&&◌, rules}
use mathlib.Core.Path.{◌≡◌, refl, ap, ap₂, ◌∙◌}
use mathlib.Core.Bool.{Bool, true, false}
use Prim.Native.Nat.{ℕ}
use lib.Dec.{eqb, leb}
use lib.ListN.{length}
use Rattle.refusal.specs.declared.Refusal.TheVariants as refusal
use Rattle.wire.specs.Wire.{byte_at}
use Rattle.groups.specs.Traced.{closing_at}
use Rattle.trace_file.specs.declared.head.Head.{Head}
use Rattle.trace_file.specs.Layout.{version_place, numbers_place, file_bytes, following}
use Rattle.trace_file.specs.File.{claim_fits, count_in, start_in, code_in, header_fits, length_agrees}
use Rattle.trace_file.proofs.Fitness.{head_given, head_refused, test_held, test_failed}
use Rattle.trace_file.proofs.read.head_in.Goals as goal
use Rattle.trace_file.proofs.read.head_in.Goals.{In_ok-head}

-- the third test fails behind two that hold, and the fifth behind four
third : {a b d : Bool} → a ≡ true → b ≡ true → d ≡ false → (f : Bool) → a && (b && (d && f)) ≡ false
third h k l f = rw (h, k, l) refl

fifth : {a b d f g : Bool} → a ≡ true → b ≡ true → d ≡ true → f ≡ true → g ≡ false → a && (b && (d && (f && g))) ≡ false
fifth h k l m n = rw (h, k, l, m, n) refl

pub returns-in_err-asked : goal.returns-in_err-asked
unfolding header_fits
returns-in_err-asked c =
    let e : c.from_residual.result ≡ Err c.in_err-asked.field-0.0 = search rules in
    let no = test_failed refusal.TraceFile c.asked.ensures c.in_err-asked.was refl in
    rw (e, no.0, no.1)

pub returns-in_err-asked-2 : goal.returns-in_err-asked-2
unfolding header_fits
returns-in_err-asked-2 c =
    let e : c.from_residual-in_err-asked-2.result ≡ Err c.in_err-asked-2.field-0.0 = search rules in
    let there = test_held refusal.TraceFile c.asked.ensures c.in_ok-asked.was refl in
    let no = test_failed refusal.TraceFile c.asked-2.ensures c.in_err-asked-2.was refl in
    rw (e, there, no.0, no.1)

pub returns-in_err-head : goal.returns-in_err-head
unfolding header_fits
returns-in_err-head c =
    let e : c.from_residual-in_err-head.result ≡ Err c.in_err-head.field-0.0 = search rules in
    let there = test_held refusal.TraceFile c.asked.ensures c.in_ok-asked.was refl in
    let versioned = test_held refusal.TraceFile c.asked-2.ensures c.in_ok-asked-2.was refl in
    let no = head_refused _ _ _ c.try_from.ensures c.in_err-head.was in
    let s = c.args.file.now in
    let claim : claim_fits (count_in s) (start_in s) (code_in s) ≡ false = rw (c.uint.ensures.value, c.uint-2.ensures.value) at no.0 in
    let fits : header_fits c.args.format.version c.args.format.width s ≡ false = third there versioned claim (length_agrees c.args.format.width s) in
    rw (e, fits, no.1)

-- where the claim is let through
module _ (c : In_ok-head) where
  abbrev s : List ℕ
  s = c.args.file.now

  there : leb numbers_place (length s) ≡ true
  there = test_held refusal.TraceFile c.asked.ensures c.in_ok-asked.was refl

  versioned : eqb (byte_at s version_place) c.args.format.version ≡ true
  versioned = test_held refusal.TraceFile c.asked-2.ensures c.in_ok-asked-2.was refl

  claim : claim_fits (count_in s) (start_in s) (code_in s) ≡ true
  claim = rw (c.uint.ensures.value, c.uint-2.ensures.value) at (head_given _ _ _ c.try_from.ensures c.in_ok-head.was).0

  head : c.in_ok-head.head ≡ record { count = count_in s; start = start_in s; closing = closing_at (code_in s) }
  head = rw (c.uint.ensures.value, c.uint-2.ensures.value) at (head_given _ _ _ c.try_from.ensures c.in_ok-head.was).1

  long : {n m : ℕ} → n ≡ m → m ≡ following c.args.format.width c.in_ok-head.head.count → n ≡ following c.args.format.width (count_in s)
  long e f = e ∙ f ∙ ap (λ (h : Head). following c.args.format.width h.count) head

  whole : {n : ℕ} → n ≡ file_bytes c.args.format.width c.in_ok-head.head.count → n ≡ file_bytes c.args.format.width (count_in s)
  whole e = e ∙ ap (λ (h : Head). file_bytes c.args.format.width h.count) head

pub returns-in_err-asked-3 : goal.returns-in_err-asked-3
unfolding header_fits length_agrees
returns-in_err-asked-3 c =
    let k = (goal.at.returns-in_err-asked-3 c).In_ok-head in
    let e : c.from_residual-in_err-asked-3.result ≡ Err c.in_err-asked-3.field-0.0 = search rules in
    let no = test_failed refusal.TraceFile c.asked-3.ensures c.in_err-asked-3.was (ap₂ eqb c.uint-3.ensures.value (long k c.from-length.ensures c.following.ensures)) in
    rw (e, there k, versioned k, claim k, no.0, no.1)

pub returns-in_err-asked-4 : goal.returns-in_err-asked-4
unfolding header_fits length_agrees
returns-in_err-asked-4 c =
    let k = (goal.at.returns-in_err-asked-4 c).In_ok-head in
    let e : c.from_residual-in_err-asked-4.result ≡ Err c.in_err-asked-4.field-0.0 = search rules in
    let agrees = test_held refusal.TraceFile c.asked-3.ensures c.in_ok-asked-3.was (ap₂ eqb c.uint-3.ensures.value (long k c.from-length.ensures c.following.ensures)) in
    let no = test_failed refusal.TraceFile c.asked-4.ensures c.in_err-asked-4.was (ap (eqb (length c.args.file.now)) (whole k c.file_bytes.ensures)) in
    let fits : header_fits c.args.format.version c.args.format.width c.args.file.now ≡ false = fifth (there k) (versioned k) (claim k) agrees no.0 in
    rw (e, fits, no.1)

pub returns : goal.returns
unfolding header_fits length_agrees
returns c =
    let k = (goal.at.returns c).In_ok-head in
    let agrees = test_held refusal.TraceFile c.asked-3.ensures c.in_ok-asked-3.was (ap₂ eqb c.uint-3.ensures.value (long k c.from-length.ensures c.following.ensures)) in
    let entire = test_held refusal.TraceFile c.asked-4.ensures c.in_ok-asked-4.was (ap (eqb (length c.args.file.now)) (whole k c.file_bytes.ensures)) in
    rw (there k, versioned k, claim k, agrees, entire, head k)
