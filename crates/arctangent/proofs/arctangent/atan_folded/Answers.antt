use borrow.Author.Tests.{lt-ltb, le-ltb}
use Rattle.arctangent.specs.Arctangent.{folded_of}
use Rattle.arctangent.proofs.arctangent.atan_folded.Goals as goal

pub returns-then-ix-lt1072037888 : goal.returns-then-ix-lt1072037888
unfolding folded_of
returns-then-ix-lt1072037888 c = rw (c.from_known.ensures, lt-ltb _ _ c.if-ix-lt1072037888.true)

pub returns-then-ix-lt1072889856 : goal.returns-then-ix-lt1072889856
unfolding folded_of
returns-then-ix-lt1072889856 c = rw (c.from_known-then-ix-lt1072889856.ensures, le-ltb _ _ c.if-ix-lt1072037888.false, lt-ltb c.args.ix 1072889856 c.if-ix-lt1072889856.true)

pub returns-then-ix-lt1073971200 : goal.returns-then-ix-lt1073971200
unfolding folded_of
returns-then-ix-lt1073971200 c = rw (c.from_known-then-ix-lt1073971200.ensures, le-ltb _ _ c.if-ix-lt1072037888.false, le-ltb c.args.ix 1072889856 c.if-ix-lt1072889856.false, lt-ltb _ _ c.if-ix-lt1073971200.true)

pub returns-else-ix-lt1073971200 : goal.returns-else-ix-lt1073971200
unfolding folded_of
returns-else-ix-lt1073971200 c = rw (c.from_known-else-ix-lt1073971200.ensures, le-ltb _ _ c.if-ix-lt1072037888.false, le-ltb c.args.ix 1072889856 c.if-ix-lt1072889856.false, le-ltb _ _ c.if-ix-lt1073971200.false)
