-- What is left of both searches before each run.
use Rattle.boxes.proofs.Searching.{Searching}
use Rattle.boxes.proofs.explain.runs_reason.Given as goal

abbrev pub invariant-loop-first : goal.invariant-loop-first
invariant-loop-first l = Searching l.points l.b l.first l.near
