use Rattle.recorded.proofs.tally.Tally.counted.Goals as goal

pub returns-then-same : goal.returns-then-same
returns-then-same c = rw c.if-same.true

pub returns : goal.returns
returns c = rw (c.if-same.false, c.or.ensures)
