use Rattle.std.proofs.Common.{◌≡◌, Err, true, sym, ◌∙◌, length, rules}
use native.Mathlib.Omega.{arith}
use borrow.Author.Tests.{eq-eqb, ne_eqb}
use lib.Dec.{eqb}
use Rattle.wire.specs.Wire.{byte_at, uint_at}
use Rattle.refusal.specs.declared.Refusal.TheVariants.{JobFile}
use Rattle.refusal.proofs.Order.{asked_held, asked_failed}
use Rattle.job.specs.Layout.{job_bytes, following, version_place, surface_a_place, surface_b_place}
use Rattle.job.specs.File.{surface_at, job_of}
use Rattle.job.proofs.Places.{surface_part}
use Rattle.job.proofs.Unread.{surface_unread}
use Rattle.job.proofs.file.read.Goals as goal
use Rattle.job.proofs.file.read.Goals.{In-Some, In_ok-asked, In_ok-asked-2, After-read_surface, After-read_surface-2}

-- the tests that passed
long : (c : In-Some) → eqb (length c.args.bytes.now) job_bytes ≡ true
long c = eq-eqb _ job_bytes c.in-Some.ensures.cases.long

told : (c : In_ok-asked) → eqb (uint_at 4 c.args.bytes.now 0) following ≡ true
told c =
    let held = asked_held (eqb c.uint.result following) JobFile (sym c.asked.ensures ∙ c.in_ok-asked.was) in
    rw (c.uint.ensures.value, c.in-Some.ensures.cases.same) at held

first : (c : In_ok-asked-2) → eqb (byte_at c.args.bytes.now version_place) 1 ≡ true
first c =
    let held = asked_held (eqb (byte_at c.in-Some.bytes.now version_place) 1) JobFile (sym c.asked-2.ensures ∙ c.in_ok-asked-2.was) in
    rw c.in-Some.ensures.cases.same at held

-- the surfaces that are read
read_a : (c : After-read_surface) → c.read_surface.result ≡ surface_at c.args.bytes.now surface_a_place
read_a c =
    let whole = c.in-Some.ensures.cases in
    c.read_surface.ensures ∙ rw whole.same (surface_part 342 surface_a_place c.args.bytes.now (omega arith) (omega (arith, whole.long)))

read_b : (c : After-read_surface-2) → c.read_surface-2.result ≡ surface_at c.args.bytes.now surface_b_place
read_b c =
    let whole = c.in-Some.ensures.cases in
    c.read_surface-2.ensures ∙ rw whole.same (surface_part 196 surface_b_place c.args.bytes.now (omega arith) (omega (arith, whole.long)))

pub returns-in_default : goal.returns-in_default
unfolding job_of
returns-in_default c = rw (ne_eqb _ job_bytes c.in_default.ensures.cases)

pub returns-in_err-asked : goal.returns-in_err-asked
unfolding job_of
returns-in_err-asked c =
    let e : c.from_residual.result ≡ Err c.in_err-asked.field-0.0 = search rules in
    let f = asked_failed (eqb c.uint.result following) JobFile (sym c.asked.ensures ∙ c.in_err-asked.was) in
    let told = rw (c.uint.ensures.value, c.in-Some.ensures.cases.same) at f.0 in
    rw (e, f.1, long (goal.at.returns-in_err-asked c).In-Some, told)

pub returns-in_err-asked-2 : goal.returns-in_err-asked-2
unfolding job_of
returns-in_err-asked-2 c =
    let e : c.from_residual-in_err-asked-2.result ≡ Err c.in_err-asked-2.field-0.0 = search rules in
    let f = asked_failed (eqb (byte_at c.in-Some.bytes.now version_place) 1) JobFile (sym c.asked-2.ensures ∙ c.in_err-asked-2.was) in
    let first = rw c.in-Some.ensures.cases.same at f.0 in
    let w = goal.at.returns-in_err-asked-2 c in
    rw (e, f.1, long w.In-Some, told w.In_ok-asked, first)

pub returns-in_err-a : goal.returns-in_err-a
unfolding job_of
returns-in_err-a c =
    let e : c.from_residual-in_err-a.result ≡ Err c.in_err-a.field-0.0 = search rules in
    let w = goal.at.returns-in_err-a c in
    let was = sym (read_a w.After-read_surface) ∙ c.in_err-a.was in
    rw (e, surface_unread _ _ _ was, long w.In-Some, told w.In_ok-asked, first w.In_ok-asked-2, was)

pub returns-in_err-b : goal.returns-in_err-b
unfolding job_of
returns-in_err-b c =
    let e : c.from_residual-in_err-b.result ≡ Err c.in_err-b.field-0.0 = search rules in
    let w = goal.at.returns-in_err-b c in
    let a = sym (read_a w.After-read_surface) ∙ c.in_ok-a.was in
    let was = sym (read_b w.After-read_surface-2) ∙ c.in_err-b.was in
    rw (e, surface_unread _ _ _ was, long w.In-Some, told w.In_ok-asked, first w.In_ok-asked-2, a, was)

pub returns : goal.returns
unfolding job_of
returns c =
    let w = goal.at.returns c in
    let a = sym (read_a w.After-read_surface) ∙ c.in_ok-a.was in
    let b = sym (read_b w.After-read_surface-2) ∙ c.in_ok-b.was in
    let job = rw c.in-Some.ensures.cases.same at c.job_at.ensures in
    rw (long w.In-Some, told w.In_ok-asked, first w.In_ok-asked-2, a, b, job)
