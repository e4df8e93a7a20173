use mathlib.Core.Path.{refl}
use borrow.Author.Tests.{eq-eqb, ne_eqb}
use mir.Syntax.{w32}
use Rattle.std.proofs.lemmas.Int.{to_z-of_z}
use Rattle.remainder.specs.Kernel.{flipped_of}
use Rattle.remainder.proofs.digits.flipped.Goals as goal

pub returns-then-ih-ne2 : goal.returns-then-ih-ne2
unfolding flipped_of
returns-then-ih-ne2 c = rw (ne_eqb _ _ c.if-ih-ne2.true)

pub returns-then-carry : goal.returns-then-carry
unfolding flipped_of
returns-then-carry c = rw (eq-eqb _ _ c.if-ih-ne2.false, c.if-carry.true, c.scalbn.ensures, to_z-of_z w32 _ c.ranges.q0) refl

pub returns-else-carry : goal.returns-else-carry
unfolding flipped_of
returns-else-carry c = rw (eq-eqb _ _ c.if-ih-ne2.false, c.if-carry.false)
