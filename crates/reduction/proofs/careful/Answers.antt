use borrow.Author.Tests.{le-leb, lt-leb}
use mathlib.Core.Path.{refl}
use Rattle.loops.proofs.Choice.{pick_taken, pick_left}
use Rattle.reduction.specs.Reduction.{careful_of}
use Rattle.reduction.proofs.careful.Goals as goal

pub returns-then-j-e : goal.returns-then-j-e
unfolding careful_of
returns-then-j-e c = rw (← c.exponent_field-e.ensures) (pick_taken _ (le-leb _ _ c.if-j-e.true) refl)

pub returns-then-j-e2 : goal.returns-then-j-e2
unfolding careful_of
returns-then-j-e2 c =
    rw (← c.exponent_field-e.ensures, ← c.next_difference-d2.ensures, ← c.exponent_field-e2.ensures)
    (pick_left _ (lt-leb _ _ c.if-j-e.false) (pick_taken _ (le-leb _ _ c.if-j-e2.true) refl))

pub returns : goal.returns
unfolding careful_of
returns c =
    rw (c.next_difference.ensures, ← c.exponent_field-e.ensures, ← c.next_difference-d2.ensures, ← c.exponent_field-e2.ensures)
    (pick_left _ (lt-leb _ _ c.if-j-e.false) (pick_left _ (lt-leb _ _ c.if-j-e2.false) refl))
