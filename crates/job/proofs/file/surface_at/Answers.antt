use Rattle.std.proofs.Common.{◌≡◌, ◌<◌, Err, sym, ◌∙◌, rules}
use native.Mathlib.Omega.{arith}
use borrow.Author.Tests.{le-ltb, lt-ltb}
use Rattle.wire.specs.Wire.{byte_at}
use Rattle.analytic.specs.Kind.{number_of}
use Rattle.refusal.specs.declared.Refusal.TheVariants.{JobFile}
use Rattle.refusal.proofs.Order.{asked_held, asked_failed}
use Rattle.job.specs.Layout.{both_marks}
use Rattle.job.specs.File.{surface_at}
use Rattle.job.proofs.Parts.{number_at_most, mark_at_most}
use Rattle.job.proofs.file.surface_at.Goals as goal

pub returns-in_default : goal.returns-in_default
unfolding surface_at
returns-in_default c =
    let above : 4 < byte_at c.args.bytes.now 0 = omega (arith, c.in_default.ensures, c.from.ensures) in
    rw (lt-ltb 4 _ above)

pub returns-in_err-marks : goal.returns-in_err-marks
unfolding surface_at
returns-in_err-marks c =
    let e : c.from_residual.result ≡ Err c.in_err-marks.field-0.0 = search rules in
    let k : number_of c.in-Ok.kind ≡ byte_at c.args.bytes.now 0 = c.in-Ok.ensures ∙ c.from.ensures in
    let m = rw (c.in_err-marks.was, c.from-2.ensures) at c.try_from-2.ensures in
    rw (e, m.0, ← k, le-ltb 4 _ (number_at_most c.in-Ok.kind), lt-ltb both_marks _ m.1)

pub returns-in_err-asked : goal.returns-in_err-asked
unfolding surface_at
returns-in_err-asked c =
    let e : c.from_residual-in_err-asked.result ≡ Err c.in_err-asked.field-0.0 = search rules in
    let f = asked_failed c.unused_clear.result JobFile (sym c.asked.ensures ∙ c.in_err-asked.was) in
    let k : number_of c.in-Ok.kind ≡ byte_at c.args.bytes.now 0 = c.in-Ok.ensures ∙ c.from.ensures in
    let m = rw (c.in_ok-marks.was, c.from-2.ensures) at c.try_from-2.ensures in
    rw (e, f.1, ← k, le-ltb 4 _ (number_at_most c.in-Ok.kind), ← m, le-ltb both_marks _ (mark_at_most c.in_ok-marks.marks))
    (rw (← c.uint-first.ensures.value, ← c.uint-second.ensures.value, ← c.unused_clear.ensures, f.0))

pub returns : goal.returns
unfolding surface_at
returns c =
    let h = asked_held c.unused_clear.result JobFile (sym c.asked.ensures ∙ c.in_ok-asked.was) in
    let k : number_of c.in-Ok.kind ≡ byte_at c.args.bytes.now 0 = c.in-Ok.ensures ∙ c.from.ensures in
    let m = rw (c.in_ok-marks.was, c.from-2.ensures) at c.try_from-2.ensures in
    rw (← k, le-ltb 4 _ (number_at_most c.in-Ok.kind), ← m, le-ltb both_marks _ (mark_at_most c.in_ok-marks.marks))
    (rw (← c.uint-first.ensures.value, ← c.uint-second.ensures.value, ← c.unused_clear.ensures, h, ← c.patch_at.ensures))
