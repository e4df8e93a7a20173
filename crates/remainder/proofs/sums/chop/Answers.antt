-- Each iteration passes a digit that is 0.
use mathlib.Core.Path.{◌≡◌, refl}
use Prim.Native.Nat.{ℕ, ◌+◌, ◌-◌, ◌<◌, ◌≤◌}
use native.Mathlib.Omega.{arith}
use borrow.Author.Tests.{ne_eqb}
use mathlib.Core.List.{List}
use lib.ListN.{get_or}
use lib.IntN.{ℤ, pos, ◌-ℤ◌}
use mir.Syntax.{w32}
use mir.Val.{to_z, of_z}
use Rattle.std.proofs.lemmas.Int.{ints, to_z-of_z}
use Rattle.loops.specs.Loop.{on, out}
use Rattle.loops.proofs.Loop.{searched_again, searched_leave, searched_done}
use Rattle.remainder.specs.Kernel.{chop_step, chop_of}
use Rattle.remainder.proofs.sums.chop.Goals as goal

-- the digit i - 1, as iteration jz - i looks at it
module _ (iq : List ℕ) (jz i : ℕ) (q0 : ℤ) (some : 0 < i) (most : i ≤ jz) where
  stops : (get_or iq (i - 1) 0 ≡ 0 → ⊥) → chop_step iq (jz - 1) (jz - i) q0 ≡ out (record { jz = i - 1; q0 = q0 })
  stops h =
      let at : jz - 1 - (jz - i) ≡ i - 1 = omega arith in
      rw (at, ne_eqb _ _ h) refl

  passes : get_or iq (i - 1) 0 ≡ 0 → chop_step iq (jz - 1) (jz - i) q0 ≡ on (q0 -ℤ pos 24)
  passes h =
      let at : jz - 1 - (jz - i) ≡ i - 1 = omega arith in
      rw (at, h) refl

pub loop-i-init : goal.loop-i-init
unfolding chop_of
loop-i-init c =
    let none : c.args.jz - c.args.jz ≡ 0 = omega arith in
    let e : to_z w32 (of_z w32 (to_z w32 (of_z w32 c.args.q0) -ℤ pos 24)) ≡ c.args.q0 -ℤ pos 24 = omega (arith, ints) in
    record { found = rw (e, to_z-of_z w32 _ c.ranges.q0, none) refl; lower = omega (arith, ints) }

pub returns-then-iq-i-ne0-clause-is : goal.returns-then-iq-i-ne0-clause-is
returns-then-iq-i-ne0-clause-is c =
    let jz = c.args.jz in
    let s = c.loop-i in
    let e = stops c.args.iq.now jz s.i (to_z w32 s.q0-bits) (omega arith) (omega arith) c.if-iq-i-ne0.true in
    searched_leave _ _ (jz - s.i) jz (omega arith) e (rw (to_z-of_z w32 _ c.ranges.q0) at s.invariant.found)

pub loop-i-preserved : goal.loop-i-preserved
loop-i-preserved c =
    let jz = c.args.jz in
    let s = c.loop-i in
    let q : ℤ = to_z w32 s.q0-bits in
    let less : to_z w32 (of_z w32 (q -ℤ pos 24)) ≡ q -ℤ pos 24 = omega (arith, ints, s.invariant.lower) in
    let e = passes c.args.iq.now jz s.i q (omega arith) (omega arith) c.if-iq-i-ne0.false in
    let next = searched_again _ _ (jz - s.i) jz (omega arith) e s.invariant.found in
    let up : jz - s.i + 1 ≡ jz - (s.i - 1) = omega arith in
    record { found = rw (less, ← up) next; lower = omega (arith, ints, less, s.invariant.lower) }

pub returns-clause-is : goal.returns-clause-is
returns-clause-is c = searched_done _ _ _ _ (omega arith) (rw (to_z-of_z w32 _ c.ranges.q0) at c.loop-i.invariant.found)
