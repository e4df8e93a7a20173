-- The high word is that of a number below 1, and no shift loses a bit.
use borrow.Author.Tests.{lt-ltb, le-ltb}
use native.Mathlib.Omega.{arith}
use mathlib.Core.Path.{◌≡◌}
use Prim.Native.Nat.{ℕ, ◌-◌, ◌*◌, ◌%◌, ◌^◌, ◌≤◌}
use native.Mathlib.Nat.{mod-eq_of_lt}
use Rattle.std.proofs.lemmas.Float.{not_nan_f64_bits}
use Rattle.fdlibm.specs.Kernel.{qx_of}
use Rattle.fdlibm.proofs.kernel.quarter.Goals as goal

exact : (ix : ℕ) → ix ≤ 0x3fe90000 → (ix - 0x00200000) * 2 ^ 32 % 2 ^ 64 ≡ (ix - 0x00200000) * 2 ^ 32
exact ix h = mod-eq_of_lt (omega arith)

pub float_from_bits-result : goal.float_from_bits-result
float_from_bits-result c = not_nan_f64_bits _ (omega arith)

pub returns-then-ix-gt1072234496 : goal.returns-then-ix-gt1072234496
unfolding qx_of
returns-then-ix-gt1072234496 c = rw (lt-ltb _ _ c.if-ix-gt1072234496.true)

pub returns-else-ix-gt1072234496 : goal.returns-else-ix-gt1072234496
unfolding qx_of
returns-else-ix-gt1072234496 c = rw (exact _ c.if-ix-gt1072234496.false, le-ltb _ _ c.if-ix-gt1072234496.false)
