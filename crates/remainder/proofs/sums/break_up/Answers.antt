use mathlib.Core.Path.{◌≡◌, refl}
use lib.IntN.{pos, ◌+ℤ◌}
use mir.Syntax.{w32}
use mir.Val.{to_z, of_z}
use native.Mathlib.Omega.{arith}
use Rattle.std.proofs.lemmas.Int.{ints, to_z-of_z}
use Rattle.remainder.specs.Kernel.{break_of}
use Rattle.remainder.proofs.sums.break_up.Goals as goal

pub returns-then-z-clause-is : goal.returns-then-z-clause-is
unfolding break_of
returns-then-z-clause-is c =
    let up : to_z w32 (of_z w32 (to_z w32 (of_z w32 c.args.q0) +ℤ pos 24)) ≡ c.args.q0 +ℤ pos 24 = omega (arith, ints) in
    rw (c.if-z.true, c.int-then-z.ensures.is, c.int.ensures.is, c.int-fw.ensures.is, up) refl

pub returns-else-z-clause-is : goal.returns-else-z-clause-is
unfolding break_of
returns-else-z-clause-is c = rw (c.if-z.false, c.int-else-z.ensures.is, to_z-of_z w32 _ c.ranges.q0) refl
