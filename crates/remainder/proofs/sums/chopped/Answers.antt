use mathlib.Core.Path.{◌≡◌, refl, ◌∙◌}
use native.Mathlib.Omega.{arith}
use lib.IntN.{pos, neg_ℤ, ◌-ℤ◌}
use mir.Syntax.{w32}
use mir.Val.{to_z, of_z}
use Rattle.std.proofs.lemmas.Int.{ints, to_z-of_z}
use Rattle.remainder.specs.Kernel.{chopped_of}
use Rattle.remainder.proofs.sums.chopped.Goals as goal

pub returns-then-z-clause-is : goal.returns-then-z-clause-is
unfolding chopped_of
returns-then-z-clause-is c = rw (c.if-z.true, c.chop.ensures.is, to_z-of_z w32 _ c.ranges.q0) refl

pub returns-else-z-clause-is : goal.returns-else-z-clause-is
unfolding chopped_of
returns-else-z-clause-is c =
    let turned : to_z w32 (of_z w32 (pos 0 -ℤ to_z w32 (of_z w32 c.args.q0))) ≡ neg_ℤ c.args.q0 = omega (arith, ints) in
    c.break_up.ensures.is ∙ rw (c.if-z.false, c.scalbn.ensures, turned, to_z-of_z w32 _ c.ranges.q0) refl
