-- Each iteration joins a digit.
use mathlib.Core.Path.{◌≡◌, refl, ap}
use Prim.Native.Nat.{ℕ, ◌+◌, ◌-◌}
use native.Mathlib.Omega.{arith}
use Rattle.std.specs.Int.Bits.{bit_or}
use lib.ListN.{get_or}
use Rattle.loops.proofs.Loop.{ranged_again, ranged_done}
use Rattle.remainder.specs.Kernel.{digit_joined, joined_of}
use Rattle.remainder.proofs.digits.joined.Goals as goal

pub loop-i-init : goal.loop-i-init
unfolding joined_of
loop-i-init c = let none : c.args.jz - c.args.jz ≡ 0 = omega arith in rw none refl

pub loop-i-preserved : goal.loop-i-preserved
loop-i-preserved c =
    let jz = c.args.jz in
    let iq = c.args.iq.now in
    let s = c.loop-i in
    let t : ℕ = jz - s.i in
    let at : s.i - 1 ≡ jz - 1 - t = omega arith in
    let next = ranged_again (digit_joined iq jz) t (jz - 4) (omega arith) (ap (λ (r : ℕ). bit_or s.j (get_or iq r 0)) at) s.invariant in
    let up : t + 1 ≡ jz - (s.i - 1) = omega arith in
    rw up at next

pub returns : goal.returns
returns c = ranged_done _ _ _ (omega arith) c.loop-i.invariant
