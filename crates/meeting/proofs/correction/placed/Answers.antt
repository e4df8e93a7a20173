use lib.Dec.{lit<}
use Rattle.meeting.specs.Correction.{placed_of}
use Rattle.meeting.proofs.correction.placed.Goals as goal

pub returns : goal.returns
unfolding placed_of
returns c =
    rw (c.with_parameter.ensures, c.with_parameter-second.ensures, c.with_parameter-first.ensures, c.free.ensures.each 0 (lit< tt), c.free.ensures.each 1 (lit< tt), c.free.ensures.each 2 (lit< tt))
