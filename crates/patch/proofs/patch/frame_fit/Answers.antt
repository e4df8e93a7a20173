use Rattle.loops.proofs.Choice.{and_taken, and_left}
use Rattle.patch.specs.Patch.{frame_fit}
use Rattle.patch.proofs.patch.frame_fit.Goals as goal

pub returns-then-vector_fit-2 : goal.returns-then-vector_fit-2
unfolding frame_fit
returns-then-vector_fit-2 c =
    and_taken c.is_fit.ensures c.if-is_fit.true
    (and_taken c.vector_fit.ensures c.if-vector_fit.true (and_taken c.vector_fit-then-vector_fit.ensures c.if-vector_fit-2.true c.vector_fit-then-vector_fit-2.ensures))

pub returns-else-vector_fit-2 : goal.returns-else-vector_fit-2
unfolding frame_fit
returns-else-vector_fit-2 c =
    and_taken c.is_fit.ensures c.if-is_fit.true
    (and_taken c.vector_fit.ensures c.if-vector_fit.true (and_left _ c.vector_fit-then-vector_fit.ensures c.if-vector_fit-2.false))

pub returns-else-vector_fit : goal.returns-else-vector_fit
unfolding frame_fit
returns-else-vector_fit c = and_taken c.is_fit.ensures c.if-is_fit.true (and_left _ c.vector_fit.ensures c.if-vector_fit.false)

pub returns-else-is_fit : goal.returns-else-is_fit
unfolding frame_fit
returns-else-is_fit c = and_left _ c.is_fit.ensures c.if-is_fit.false
