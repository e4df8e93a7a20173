use Rattle.std.proofs.Common.{Ok, Err, rules}
use mathlib.Core.Path.{◌≡◌, ap, ◌∙◌}
use mathlib.Core.Bool.{true}
use mathlib.Core.List.{List}
use Prim.Native.Nat.{ℕ, ◌*◌}
use lib.Dec.{leb}
use lib.ListN.{length, take}
use Rattle.loops.specs.Over.{over, written}
use Rattle.refusal.specs.declared.Refusal.TheVariants as refusal
use Rattle.wire.specs.Wire.{numbers_bytes}
use Rattle.groups.specs.Groups.{holds_of}
use Rattle.groups.specs.Traced.{code_of, closing_at}
use Rattle.groups.proofs.Closings.{code_back}
use Rattle.trace_file.specs.declared.head.Head.{Head}
use Rattle.trace_file.specs.Layout.{numbers_place, file_bytes}
use Rattle.trace_file.specs.File.{claim_fits, all_finite, header_of}
use Rattle.trace_file.specs.Write.{filed, write_fitness, write_of}
use Rattle.trace_file.proofs.Fitness.{claim_fits_lem, head_given, head_refused, test_held, test_failed}
use Rattle.trace_file.proofs.Header.{file_put}
use Rattle.trace_file.proofs.write.write.Goals as goal
use Rattle.trace_file.proofs.write.write.Goals.{In_ok-head}

-- what the tests say that passed
module _ (c : In_ok-head) where
  claim : claim_fits c.args.claim.count c.args.claim.start c.args.claim.code ≡ true
  claim = (head_given _ _ _ c.try_from.ensures c.in_ok-head.was).0

  head : c.in_ok-head.head ≡ record { count = c.args.claim.count; start = c.args.claim.start; closing = closing_at c.args.claim.code }
  head = (head_given _ _ _ c.try_from.ensures c.in_ok-head.was).1

  many : {n : ℕ} → n ≡ c.args.format.width * c.in_ok-head.head.count → n ≡ c.args.format.width * c.args.claim.count
  many e = e ∙ ap (λ (h : Head). c.args.format.width * h.count) head

  long : {n : ℕ} → n ≡ file_bytes c.args.format.width c.in_ok-head.head.count → n ≡ file_bytes c.args.format.width c.args.claim.count
  long e = e ∙ ap (λ (h : Head). file_bytes c.args.format.width h.count) head

pub returns-in_err-head : goal.returns-in_err-head
unfolding write_of write_fitness
returns-in_err-head c =
    let e : c.from_residual.result ≡ Err c.in_err-head.field-0.0 = search rules in
    let no = head_refused _ _ _ c.try_from.ensures c.in_err-head.was in
    rw (e, no.0, no.1)

pub returns-in_err-asked : goal.returns-in_err-asked
unfolding write_of write_fitness holds_of
returns-in_err-asked c =
    let k = (goal.at.returns-in_err-asked c).In_ok-head in
    let e : c.from_residual-in_err-asked.result ≡ Err c.in_err-asked.field-0.0 = search rules in
    let no = test_failed refusal.Lent c.asked.ensures c.in_err-asked.was (ap (λ (n : ℕ). leb n (length c.args.numbers.now)) (many k c.numbers-n.ensures)) in
    rw (e, claim k, no.0, no.1)

pub returns-in_err-asked-2 : goal.returns-in_err-asked-2
unfolding write_of write_fitness holds_of
returns-in_err-asked-2 c =
    let k = (goal.at.returns-in_err-asked-2 c).In_ok-head in
    let e : c.from_residual-in_err-asked-2.result ≡ Err c.in_err-asked-2.field-0.0 = search rules in
    let lent = test_held refusal.Lent c.asked.ensures c.in_ok-asked.was (ap (λ (n : ℕ). leb n (length c.args.numbers.now)) (many k c.numbers-n.ensures)) in
    let no = test_failed refusal.Lent c.asked-2.ensures c.in_err-asked-2.was (ap (λ (n : ℕ). leb n (length c.args.file.now)) (long k c.file_bytes-bytes.ensures)) in
    rw (e, claim k, lent, no.0, no.1)

pub returns-in_err-asked-3 : goal.returns-in_err-asked-3
unfolding write_of write_fitness holds_of
returns-in_err-asked-3 c =
    let k = (goal.at.returns-in_err-asked-3 c).In_ok-head in
    let e : c.from_residual-in_err-asked-3.result ≡ Err c.in_err-asked-3.field-0.0 = search rules in
    let lent = test_held refusal.Lent c.asked.ensures c.in_ok-asked.was (ap (λ (n : ℕ). leb n (length c.args.numbers.now)) (many k c.numbers-n.ensures)) in
    let room = test_held refusal.Lent c.asked-2.ensures c.in_ok-asked-2.was (ap (λ (n : ℕ). leb n (length c.args.file.now)) (long k c.file_bytes-bytes.ensures)) in
    let front = ap (λ (n : ℕ). all_finite (take n c.args.numbers.now)) (many k c.numbers-n.ensures) in
    let no = test_failed refusal.TraceFile c.asked-3.ensures c.in_err-asked-3.was (c.all_finite.ensures ∙ front) in
    rw (e, claim k, lent, room, no.0, no.1)

told : {n m : ℕ} {s t : List ℕ} → n ≡ m → s ≡ t → filed (Ok n) s ≡ filed (Ok m) t
told e f = rw (e, f)

pub returns : goal.returns
unfolding write_of write_fitness holds_of
returns c =
    let g = c.args in
    let k = (goal.at.returns c).In_ok-head in
    let n = many k c.numbers-n.ensures in
    let m = long k c.file_bytes-bytes.ensures in
    let lent = test_held refusal.Lent c.asked.ensures c.in_ok-asked.was (ap (λ (n : ℕ). leb n (length g.numbers.now)) n) in
    let room = test_held refusal.Lent c.asked-2.ensures c.in_ok-asked-2.was (ap (λ (n : ℕ). leb n (length g.file.now)) m) in
    let finite = test_held refusal.TraceFile c.asked-3.ensures c.in_ok-asked-3.was (c.all_finite.ensures ∙ ap (λ (n : ℕ). all_finite (take n g.numbers.now)) n) in
    let header = λ (h : Head). written (header_of g.format.version g.format.width h.count h.start (code_of h.closing)) g.file.now in
    let code = code_back g.claim.code (claim_fits_lem (claim k)).3 in
    let put =
    file_put g.file.now g.format.version g.format.width g.numbers.now g.claim.count g.claim.start g.claim.code
    (c.put_header.ensures ∙ ap header (head k) ∙ ap (λ (j : ℕ). written (header_of g.format.version g.format.width g.claim.count g.claim.start j) g.file.now) code)
    (c.put_numbers.ensures ∙ ap (λ (j : ℕ). over c.put_header.new.file numbers_place (numbers_bytes (take j g.numbers.now))) n)
    in
    rw (claim k, lent, room, finite) (told m put)
