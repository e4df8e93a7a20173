use borrow.Author.Tests.{eq-eqb, ne_eqb, le-leb, lt-leb}
use Rattle.certificate.specs.Check.{closing_so}
use Rattle.certificate.proofs.check.closing_so.Goals as goal

pub returns-in-Open : goal.returns-in-Open
unfolding closing_so
returns-in-Open c = rw c.in-Open.is

pub returns-then-claim-eq0 : goal.returns-then-claim-eq0
unfolding closing_so
returns-then-claim-eq0 c = rw (c.same_row.ensures, c.row_of.ensures, c.row_of-first.ensures, c.in-Forward.is, eq-eqb c.args.claim.start 0 c.if-claim-eq0.true)

pub returns-else-claim-eq0 : goal.returns-else-claim-eq0
unfolding closing_so
returns-else-claim-eq0 c = rw (c.in-Forward.is, ne_eqb c.args.claim.start 0 c.if-claim-eq0.false)

pub returns-then-claim-ge2 : goal.returns-then-claim-ge2
unfolding closing_so
returns-then-claim-ge2 c = rw (c.same_row-then-claim-ge2.ensures, c.row_of-then-claim-ge2.ensures, c.row_of-first.ensures, c.in-Backward.is, le-leb 2 c.args.claim.start c.if-claim-ge2.true)

pub returns-else-claim-ge2 : goal.returns-else-claim-ge2
unfolding closing_so
returns-else-claim-ge2 c = rw (c.in-Backward.is, lt-leb 2 c.args.claim.start c.if-claim-ge2.false)
