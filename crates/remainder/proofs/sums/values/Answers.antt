-- Each iteration sets a value.
use mathlib.Core.Path.{◌≡◌, refl, ap, ◌∙◌, sym}
use Prim.Native.Nat.{ℕ, ◌+◌, ◌-◌}
use native.Mathlib.Omega.{arith}
use mathlib.Core.List.{List}
use mir.Syntax.{w32}
use mir.Val.{SFits}
use lib.Ieee.{Float}
use lib.ListN.{get_or, set}
use Rattle.number.specs.Operators.{◌⊗◌}
use Rattle.std.proofs.Common.{rules}
use Rattle.std.proofs.lemmas.Int.{to_z-of_z}
use Rattle.loops.specs.Loop.{ranged}
use Rattle.loops.proofs.Loop.{ranged_step, ranged_end}
use Rattle.remainder.specs.Machine.{double}
use Rattle.remainder.specs.Kernel.{Valued, valued, value_step, values_of, twon24}
use Rattle.remainder.proofs.sums.values.Goals as goal

pub loop-i-init : goal.loop-i-init
unfolding values_of
loop-i-init c =
    let none : c.args.at.jz + 1 - (c.args.at.jz + 1) ≡ 0 = omega arith in
    let fit : SFits w32 c.args.at.q0 = search rules in
    rw (none, c.scalbn-fw.ensures, to_z-of_z w32 _ fit) refl

-- the value at jz - t, by its index
step : (iq : List ℕ) (jz t i : ℕ) (q : List Float) (fw : Float) → i ≡ jz - t
    → valued (set q i (fw ⊗ double (get_or iq i 0))) (fw ⊗ twon24) ≡ value_step iq jz t (valued q fw)
step iq jz t i q fw e = ap (λ (r : ℕ). valued (set q r (fw ⊗ double (get_or iq r 0))) (fw ⊗ twon24)) e

pub loop-i-preserved : goal.loop-i-preserved
loop-i-preserved c =
    let jz = c.args.at.jz in
    let iq = c.args.iq.now in
    let s = c.loop-i in
    let t : ℕ = jz + 1 - s.i in
    let f = value_step iq jz in
    let e = step iq jz t (s.i - 1) s.q s.fw (omega arith) in
    let up : t + 1 ≡ jz + 1 - (s.i - 1) = omega arith in
    let next =
    ap (λ (v : Valued). (ranged f (t + 1) (jz + 1) v).values) e
    ∙ sym (ap (λ (v : Valued). v.values) (ranged_step f t (jz + 1) (valued s.q s.fw) (omega arith)))
    ∙ s.invariant in
    rw up at next

pub returns : goal.returns
returns c =
    let jz = c.args.at.jz in
    let s = c.loop-i in
    sym (ap (λ (v : Valued). v.values) (ranged_end (value_step c.args.iq.now jz) (jz + 1 - s.i) (jz + 1) (valued s.q s.fw) (omega arith))) ∙ s.invariant
