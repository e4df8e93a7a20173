use mathlib.Core.Path.{◌≡◌, refl, sym, ◌∙◌}
use mathlib.Core.Bool.{Bool, true, false, ◌&&◌}
use Rattle.certificate.specs.Check.{same_numbers}
use Rattle.certificate.proofs.check.same_point.Goals as goal

last : (t : Bool) → t && true ≡ t
last true = refl
last false = refl

pub returns-then-same_bits-2 : goal.returns-then-same_bits-2
unfolding same_numbers
returns-then-same_bits-2 c = rw (← c.same_bits.ensures, c.if-same_bits.true, ← c.same_bits-then-same_bits.ensures, c.if-same_bits-2.true) (c.same_bits-then-same_bits-2.ensures ∙ sym (last _))

pub returns-else-same_bits-2 : goal.returns-else-same_bits-2
unfolding same_numbers
returns-else-same_bits-2 c = rw (← c.same_bits.ensures, c.if-same_bits.true, ← c.same_bits-then-same_bits.ensures, c.if-same_bits-2.false)

pub returns-else-same_bits : goal.returns-else-same_bits
unfolding same_numbers
returns-else-same_bits c = rw (← c.same_bits.ensures, c.if-same_bits.false)
