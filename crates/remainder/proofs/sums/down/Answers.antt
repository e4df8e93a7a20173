-- Each iteration adds an entry.
use mathlib.Core.Path.{◌≡◌, refl, ap}
use Prim.Native.Nat.{ℕ, ◌+◌, ◌-◌}
use native.Mathlib.Omega.{arith}
use lib.Ieee.{nan}
use lib.ListN.{get_or}
use Rattle.number.specs.Operators.{◌⊕◌}
use Rattle.loops.proofs.Loop.{ranged_again, ranged_done}
use Rattle.remainder.specs.Kernel.{add_down, down_of}
use Rattle.remainder.proofs.sums.down.Goals as goal

pub loop-i-init : goal.loop-i-init
unfolding down_of
loop-i-init c = let none : c.args.jz + 1 - (c.args.jz + 1) ≡ 0 = omega arith in rw none refl

pub loop-i-preserved : goal.loop-i-preserved
loop-i-preserved c =
    let jz = c.args.jz in
    let fq = c.args.fq.now in
    let s = c.loop-i in
    let t : ℕ = jz + 1 - s.i in
    let at : s.i - 1 ≡ jz - t = omega arith in
    let next = ranged_again (add_down fq jz) t (jz + 1) (omega arith) (ap (λ (r : ℕ). s.fw ⊕ get_or fq r nan) at) s.invariant in
    let up : t + 1 ≡ jz + 1 - (s.i - 1) = omega arith in
    rw up at next

pub returns : goal.returns
returns c = ranged_done _ _ _ (omega arith) c.loop-i.invariant
