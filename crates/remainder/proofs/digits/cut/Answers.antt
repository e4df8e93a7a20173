use mathlib.Core.Path.{◌≡◌, refl}
use mathlib.Core.Bool.{false}
use mathlib.Core.List.{List}
use Prim.Native.Nat.{ℕ, zero, suc}
use native.Mathlib.Omega.{arith}
use lib.IntN.{ℤ, pos, negsuc}
use lib.Signed.{lt_z}
use lib.Ieee.{Float}
use mir.Syntax.{w32}
use mir.Val.{SFits, to_z, of_z}
use Rattle.std.proofs.lemmas.Int.{ints}
use Rattle.loops.specs.Loop.{pick}
use Rattle.number.specs.Operators.{◌≤?◌}
use Rattle.number.specs.Helpers.{half}
use Rattle.remainder.specs.Kernel.{cut_of}
use Rattle.remainder.proofs.digits.cut.Goals as goal

-- a q0 that is neither above 0 nor 0
below : (iq : List ℕ) (n : ℕ) (z : Float) (jz ih : ℕ) (q0 : ℤ) → SFits w32 q0 → lt_z (pos 0) (to_z w32 (of_z w32 q0)) ≡ false → (of_z w32 q0 ≡ 0 → ⊥)
    → ih ≡ pick (half ≤? z) 2 0 → record { digits = iq; n = n; ih = ih } ≡ cut_of iq n z jz q0
below iq n z jz ih (pos zero) f h g e = absurd (g refl)
below iq n z jz ih (pos (suc k)) f h g e = absurd (omega (arith, ints, h))
below iq n z jz ih (negsuc k) f h g e = rw e refl

pub returns-then-z-clause-is : goal.returns-then-z-clause-is
returns-then-z-clause-is c = below _ _ c.args.z _ 2 _ c.ranges.q0 c.if-q0-gt0.false c.if-q0-eq0.false (rw c.if-z.true refl)

pub returns-else-z-clause-is : goal.returns-else-z-clause-is
returns-else-z-clause-is c = below _ _ c.args.z _ 0 _ c.ranges.q0 c.if-q0-gt0.false c.if-q0-eq0.false (rw c.if-z.false refl)
