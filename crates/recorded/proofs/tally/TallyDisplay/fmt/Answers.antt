use Rattle.std.proofs.Common.{refl, append_assoc}
use Rattle.std.proofs.Output.{has_written_append, has_written_of_eq}
use Rattle.recorded.specs.Tally.{said_of}
use Rattle.recorded.proofs.tally.TallyDisplay.fmt.Goals as goal

pub returns-in-None-clause-writes : goal.returns-in-None-clause-writes
returns-in-None-clause-writes g c =
    λ p k. has_written_of_eq _ _ _ (said_of c.args.self.now) _ (rw c.in-None.is) (c.in_ok-write.ensures.writes p refl)

pub returns-in-Some-clause-writes : goal.returns-in-Some-clause-writes
returns-in-Some-clause-writes g c =
    λ p k.
    let first = c.in_ok-write.ensures.writes p refl in
    has_written_of_eq _ _ _ (said_of c.args.self.now) _ (rw c.in-Some.is (simp append_assoc)) (has_written_append _ _ _ _ _ _ first (c.write-in-Some.ensures.writes first.plain k))
