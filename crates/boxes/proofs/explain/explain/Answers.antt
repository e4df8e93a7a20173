use Rattle.std.proofs.Common.{◌≡◌, Ok, Err, sym, ap, ◌∙◌, rules}
use native.Mathlib.Omega.{arith}
use Rattle.boxes.specs.Crosses.{grown_of}
use Rattle.boxes.specs.Explain.{trace_reason, explain_of}
use Rattle.boxes.proofs.Counted.{tests_fit}
use Rattle.boxes.proofs.explain.explain.Goals as goal

pub trace_reason-requires : goal.trace_reason-requires
trace_reason-requires c =
    let g = c.args in
    let h = tests_fit g.tol g.points.now g.count g.b (sym c.crossing_fitness.ensures ∙ c.in_ok-crossing_fitness.was) in
    let low = h.least in
    (omega (arith, low), h.lent)

pub returns-in_err-crossing_fitness : goal.returns-in_err-crossing_fitness
unfolding explain_of
returns-in_err-crossing_fitness c =
    let e : c.from_residual.result ≡ Err c.in_err-crossing_fitness.field-0.0 = search rules in
    rw (e, ← c.crossing_fitness.ensures, c.in_err-crossing_fitness.was)

pub returns : goal.returns
unfolding explain_of
returns c =
    let g = c.args in
    let reason : c.trace_reason.result ≡ trace_reason g.points.now g.count (grown_of g.b g.tol.confusion) =
    c.trace_reason.ensures ∙ ap (trace_reason g.points.now g.count) c.grown.ensures in
    rw (← c.crossing_fitness.ensures, c.in_ok-crossing_fitness.was) (ap Ok reason)
