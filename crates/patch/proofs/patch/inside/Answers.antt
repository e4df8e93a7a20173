use Rattle.loops.proofs.Choice.{and_taken, and_left}
use Rattle.patch.specs.Patch.{inside_of}
use Rattle.patch.proofs.patch.inside.Goals as goal

pub returns-then-holds-3 : goal.returns-then-holds-3
unfolding inside_of
returns-then-holds-3 c =
    and_taken c.holds.ensures c.if-holds.true
    (and_taken c.holds-then-holds.ensures c.if-holds-2.true (and_taken c.holds-then-holds-2.ensures c.if-holds-3.true c.holds-then-holds-3.ensures))

pub returns-else-holds-3 : goal.returns-else-holds-3
unfolding inside_of
returns-else-holds-3 c =
    and_taken c.holds.ensures c.if-holds.true
    (and_taken c.holds-then-holds.ensures c.if-holds-2.true (and_left _ c.holds-then-holds-2.ensures c.if-holds-3.false))

pub returns-else-holds-2 : goal.returns-else-holds-2
unfolding inside_of
returns-else-holds-2 c = and_taken c.holds.ensures c.if-holds.true (and_left _ c.holds-then-holds.ensures c.if-holds-2.false)

pub returns-else-holds : goal.returns-else-holds
unfolding inside_of
returns-else-holds c = and_left _ c.holds.ensures c.if-holds.false
