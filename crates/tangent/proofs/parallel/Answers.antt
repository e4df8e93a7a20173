-- The quick test, or the roots.
use mathlib.Core.Path.{sym}
use denote.Floats.{passes}
use Rattle.tangent.proofs.Roots.{Moderate, not_parallel}
use Rattle.tangent.proofs.parallel.Goals as goal

pub returns-then-angular-length : goal.returns-then-angular-length
returns-then-angular-length c =
    let g = c.args in
    let a = c.moderate.ensures c.if-moderate.true in
    let b = c.moderate-then-moderate.ensures c.if-moderate-2.true in
    let e = c.moderate-then-moderate-2.ensures c.if-moderate-3.true in
    let ma : Moderate g.a = record { fit = passes _ c.well_formed.0.1; least = a.0; most = a.1 } in
    let mb : Moderate g.b = record { fit = passes _ c.well_formed.1.0.1; least = b.0; most = b.1 } in
    let me : Moderate g.angular = record { fit = passes _ c.well_formed.1.1.1.0.1; least = e.0; most = e.1 } in
    sym (not_parallel ma mb me g.length (passes _ c.if-angular-length.true))

pub returns : goal.returns
returns c = rw (c.max.ensures, c.sqrt-2.ensures.answer, c.sqrt.ensures.answer)
