use Rattle.std.specs.Prelude.{None}
use Rattle.std.proofs.Common.{rules}
use mathlib.Core.Path.{◌≡◌, ◌∙◌}
use native.Mathlib.Omega.{arith}
use borrow.Author.Tests.{lt-leb}
use Rattle.capi.proofs.Answers.{corner_taken, box_taken}
use Rattle.capi.specs.Crossing.{box_given}
use Rattle.capi.proofs.box_given.Goals as goal

pub returns-in_err-corners : goal.returns-in_err-corners
unfolding box_given
returns-in_err-corners c =
    let e : c.from_residual.result ≡ None = search rules in
    rw (e, lt-leb 6 _ c.in_err-corners.ensures.cases)

pub returns : goal.returns
returns c =
    let l = c.args.corners.now in
    let chunk = c.in_ok-corners.ensures.cases in
    box_taken l chunk.enough
    (rw chunk.same at c.corner.ensures ∙ corner_taken l 0 (omega arith))
    (rw chunk.same at c.corner-2.ensures ∙ corner_taken l 3 (omega arith))
