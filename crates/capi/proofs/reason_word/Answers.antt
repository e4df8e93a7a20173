use native.Mathlib.Omega.{arith}
use Rattle.capi.specs.Explain.{reason_word}
use Rattle.capi.proofs.reason_word.Goals as goal

pub returns-in-Segment : goal.returns-in-Segment
unfolding reason_word
returns-in-Segment c = rw c.in-Segment.is (omega arith)

pub returns-in-WholeApart : goal.returns-in-WholeApart
unfolding reason_word
returns-in-WholeApart c = rw c.in-WholeApart.is (omega arith)

pub returns-in-RunsApart : goal.returns-in-RunsApart
unfolding reason_word
returns-in-RunsApart c = rw c.in-RunsApart.is (omega arith)

pub returns-in-NoneMet : goal.returns-in-NoneMet
unfolding reason_word
returns-in-NoneMet c = rw c.in-NoneMet.is (omega arith)
