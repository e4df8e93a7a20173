use mathlib.Core.Path.{refl}
use borrow.Author.Tests.{eq-eqb, ne_eqb}
use mir.Syntax.{w32}
use Rattle.std.proofs.lemmas.Int.{to_z-of_z}
use Rattle.remainder.specs.Kernel.{turned_of}
use Rattle.remainder.proofs.digits.turned.Goals as goal

pub returns-then-at-eq0 : goal.returns-then-at-eq0
unfolding turned_of
returns-then-at-eq0 c = rw (eq-eqb _ _ c.if-at-eq0.true) refl

pub returns : goal.returns
unfolding turned_of
returns c =
    rw (ne_eqb _ _ c.if-at-eq0.false, c.mask.ensures, c.flipped.ensures, to_z-of_z w32 _ c.ranges.q0, ← c.complement-carry.ensures) refl
