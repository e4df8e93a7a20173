use Rattle.std.proofs.Common.{Err, rules}
use mathlib.Core.Path.{◌≡◌, refl, sym, ap, ◌∙◌}
use mathlib.Core.Bool.{true}
use mathlib.Core.List.{List}
use Prim.Native.Nat.{ℕ, ◌*◌}
use native.Mathlib.Omega.{arith}
use lib.Dec.{leb}
use lib.ListN.{length}
use lib.Seq.{length-take-le}
use borrow.Author.Tests.{leb-true}
use Rattle.loops.specs.Over.{written}
use Rattle.refusal.specs.declared.Refusal.TheVariants as refusal
use Rattle.wire.specs.Wire.{numbers_from}
use Rattle.groups.specs.Traced.{closing_at, traced, outcome}
use Rattle.trace_file.specs.declared.head.Head.{Head}
use Rattle.trace_file.specs.Layout.{numbers_place}
use Rattle.trace_file.specs.File.{count_in, start_in, code_in, header_fits}
use Rattle.trace_file.specs.Read.{read_fitness, read_of}
use Rattle.trace_file.proofs.Numbers.{filled}
use Rattle.trace_file.proofs.Fitness.{HeaderFit, header_fits_lem, finite_read, head_given, head_refused, test_held, test_failed}
use Rattle.trace_file.proofs.read.read.Goals as goal
use Rattle.trace_file.proofs.read.read.Goals.{In_ok-head}

pub returns-in_err-head : goal.returns-in_err-head
unfolding read_of read_fitness
returns-in_err-head c =
    let e : c.from_residual.result ≡ Err c.in_err-head.field-0.0 = search rules in
    let no = head_refused _ _ _ c.head_in.ensures c.in_err-head.was in
    rw (e, no.0, no.1)

-- where the head is let through
module _ (c : In_ok-head) where
  abbrev s : List ℕ
  s = c.args.file.now

  fits : header_fits c.args.format.version c.args.format.width s ≡ true
  fits = (head_given _ _ _ c.head_in.ensures c.in_ok-head.was).0

  head : c.in_ok-head.head ≡ record { count = count_in s; start = start_in s; closing = closing_at (code_in s) }
  head = (head_given _ _ _ c.head_in.ensures c.in_ok-head.was).1

  fit : HeaderFit c.args.format.version c.args.format.width s
  fit = header_fits_lem _ _ _ fits

  many : {n : ℕ} → n ≡ c.args.format.width * c.in_ok-head.head.count → n ≡ c.args.format.width * count_in s
  many e = e ∙ ap (λ (h : Head). c.args.format.width * h.count) head

pub all_finite-requires : goal.all_finite-requires
all_finite-requires c = (fit c).there

pub returns-in_err-asked : goal.returns-in_err-asked
unfolding read_of read_fitness
returns-in_err-asked c =
    let k = (goal.at.returns-in_err-asked c).In_ok-head in
    let e : c.from_residual-in_err-asked.result ≡ Err c.in_err-asked.field-0.0 = search rules in
    let no = test_failed refusal.TraceFile c.asked.ensures c.in_err-asked.was (finite_read _ _ _ (fit k) c.all_finite.ensures) in
    rw (e, fits k, no.0, no.1)

pub returns-in_err-asked-2 : goal.returns-in_err-asked-2
unfolding read_of read_fitness
returns-in_err-asked-2 c =
    let k = (goal.at.returns-in_err-asked-2 c).In_ok-head in
    let e : c.from_residual-in_err-asked-2.result ≡ Err c.in_err-asked-2.field-0.0 = search rules in
    let finite = test_held refusal.TraceFile c.asked.ensures c.in_ok-asked.was (finite_read _ _ _ (fit k) c.all_finite.ensures) in
    let no = test_failed refusal.Lent c.asked-2.ensures c.in_err-asked-2.was (ap (λ (n : ℕ). leb n (length c.args.numbers.now)) (many k c.numbers-n.ensures)) in
    rw (e, fits k, finite, no.0, no.1)

pub fill-requires : goal.fill-requires
fill-requires c =
    let k = (goal.at.fill-requires c).In_ok-head in
    let b = (fit k).bytes in
    let n = many k c.numbers-n.ensures in
    let lent = leb-true c.numbers-n.result (length c.args.numbers.now) (test_held refusal.Lent c.asked-2.ensures c.in_ok-asked-2.was refl) in
    let size = length-take-le c.numbers-n.result c.args.numbers.now lent in
    omega (arith, b, n, size)

pub returns : goal.returns
unfolding read_of read_fitness
returns c =
    let g = c.args in
    let k = (goal.at.returns c).In_ok-head in
    let n = many k c.numbers-n.ensures in
    let finite = test_held refusal.TraceFile c.asked.ensures c.in_ok-asked.was (finite_read _ _ _ (fit k) c.all_finite.ensures) in
    let lent = test_held refusal.Lent c.asked-2.ensures c.in_ok-asked-2.was refl in
    let holds = ap (λ (m : ℕ). leb m (length g.numbers.now)) (sym n) ∙ lent in
    let put =
    filled g.file.now g.numbers.now c.numbers-n.result (leb-true c.numbers-n.result (length g.numbers.now) lent) c.fill.ensures
    ∙ ap (λ (m : ℕ). written (numbers_from g.file.now numbers_place m) g.numbers.now) n
    in
    rw (fits k, finite, holds, c.from.ensures, c.from-2.ensures, head k) (ap (outcome (traced (count_in g.file.now) (start_in g.file.now) (closing_at (code_in g.file.now)))) put)
