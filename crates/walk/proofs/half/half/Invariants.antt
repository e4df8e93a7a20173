-- The invariant is `Going`: the buffer holds the points so far, in the order walked.
use Rattle.walk.proofs.Halves.{Going}
use Rattle.walk.proofs.half.half.Given as goal

abbrev pub invariant-loop-count : goal.invariant-loop-count
invariant-loop-count l =
    Going l.a l.b l.tol l.dir l.start.x l.start.p l.n l.initial.w l.initial.h l.initial.out l.out l.w l.h l.count
