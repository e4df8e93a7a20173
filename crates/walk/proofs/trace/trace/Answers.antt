use Rattle.std.proofs.Common.{◌≡◌, Err, rules}
use mathlib.Core.Path.{sym, ap, ◌∙◌}
use mathlib.Core.List.{◌++◌}
use native.Mathlib.Omega.{arith}
use lib.ListN.{drop}
use lib.Seq.{length-take-le}
use Rattle.groups.specs.Traced.{Outcome, outcome}
use Rattle.walk.specs.Trace.{room, trace_of}
use Rattle.walk.proofs.Calls.{CallFit, call_fit}
use Rattle.walk.proofs.trace.trace.Goals as goal
use Rattle.walk.proofs.trace.trace.Goals.{In_ok-call_fitness}

-- where nothing is refused
module _ (c : In_ok-call_fitness) where
  fit : CallFit c.args.a c.args.b c.args.tol c.args.cap c.args.buffer.now
  fit = call_fit c.args.guess (sym c.call_fitness.ensures ∙ c.in_ok-call_fitness.was)

pub overflow_mul-room : goal.overflow_mul-room
overflow_mul-room c = omega (arith, (fit c).cap)

pub overflow_add-room : goal.overflow_add-room
overflow_add-room c = omega (arith, (fit c).cap)

pub overflow_mul-room-2 : goal.overflow_mul-room-2
overflow_mul-room-2 c = omega (arith, (fit c).cap)

pub slice_bounds-walk_from-end : goal.slice_bounds-walk_from-end
slice_bounds-walk_from-end c = omega (arith, (fit c).lent)

pub slice_bounds-walk_from-end-2 : goal.slice_bounds-walk_from-end-2
slice_bounds-walk_from-end-2 c = sym (length-take-le _ _ (omega (arith, (fit (goal.at.slice_bounds-walk_from-end-2 c).In_ok-call_fitness).lent)))

pub walk_from-requires : goal.walk_from-requires
walk_from-requires c = length-take-le _ _ (omega (arith, (fit (goal.at.walk_from-requires c).In_ok-call_fitness).lent))

pub returns-in_err-call_fitness : goal.returns-in_err-call_fitness
unfolding trace_of
returns-in_err-call_fitness c =
    let e : c.from_residual.result ≡ Err c.in_err-call_fitness.field-0.0 = search rules in
    rw (e, ← c.call_fitness.ensures, c.in_err-call_fitness.was)

pub returns : goal.returns
unfolding trace_of
returns c =
    let g = c.args in
    rw (← c.call_fitness.ensures, c.in_ok-call_fitness.was)
    (ap (λ (o : Outcome). outcome o.answer (o.buffer ++ drop (room g.cap) g.buffer.now)) c.walk_from.ensures)
