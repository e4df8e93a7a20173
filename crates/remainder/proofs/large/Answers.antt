-- The exponents by whole numbers, and the call of the kernel.
use mathlib.Core.Path.{◌≡◌, refl, sym, ap, ◌∙◌}
use Prim.Native.Nat.{ℕ, ◌+◌, ◌-◌, ◌*◌, ◌/◌, ◌%◌, ◌^◌, ◌≤◌}
use native.Mathlib.Omega.{arith}
use lib.Bits.{and_mask}
use lib.IntN.{ℤ, pos, negsuc, ◌-ℤ◌, ◌+ℤ◌, ◌*ℤ◌}
use lib.Ieee.{Float, binary64, to_bits}
use lib.Signed.{◌≤ℤ◌}
use mir.Syntax.{w32}
use mir.Val.{to_z, of_z}
use Rattle.std.proofs.lemmas.Int.{ints}
use Rattle.number.specs.Words.{exponent_field, magnitude_bits}
use Rattle.remainder.specs.Large.{large_of}
use Rattle.remainder.proofs.Angle.{exponent_of, exponent_range, jv_is}
use Rattle.remainder.proofs.large.Goals as goal

-- the exponent's field of a magnitude is that of the number
field_is : (x : Float) → exponent_field x ≡ exponent_of x
field_is x =
    let b = to_bits binary64 x in
    let e : exponent_field x ≡ b / 2 ^ 52 % 2 ^ 11 = and_mask (b / 2 ^ 52) 11 in
    let f : magnitude_bits x ≡ b % 2 ^ 63 = and_mask b 63 in
    omega (arith, e, f)

-- q0 as the code reckons it
abbrev reckoned : ℕ → ℕ → ℤ
reckoned e j = to_z w32 (of_z w32 (to_z w32 (of_z w32 (to_z w32 e -ℤ pos 1046)) -ℤ to_z w32 (of_z w32 (pos 24 *ℤ to_z w32 (of_z w32 (to_z w32 j +ℤ pos 1))))))

reckoned_is : (e j : ℕ) → e ≤ 2046 → j ≤ 41 → reckoned e j ≡ pos e -ℤ pos 1046 -ℤ pos (24 * (j + 1))
reckoned_is e j h l = omega (arith, ints)

above : (e j : ℕ) → 1043 ≤ e → e ≤ 2046 → j ≡ (e - 1049) / 24 → negsuc 26 ≤ℤ reckoned e j
above e j l h p = omega (arith, ints, p)

below : (e j : ℕ) → 1043 ≤ e → e ≤ 2046 → j ≡ (e - 1049) / 24 → reckoned e j ≤ℤ pos 2
below e j l h p = omega (arith, ints, p)

pub kernel-requires : goal.kernel-requires
kernel-requires c =
    let range = exponent_range c.args.x c.requires.0 c.requires.1 in
    let e = c.exponent_field-e.ensures ∙ field_is c.args.x in
    let j = ap (λ (n : ℕ). n / 24) c.saturating_sub-jv.ensures in
    let l = above _ _ (omega (arith, e, range)) (omega (arith, e, range)) j in
    let h = below _ _ (omega (arith, e, range)) (omega (arith, e, range)) j in
    (c.last_piece.ensures.within, omega (arith, e, range, j), l, h)

pub returns : goal.returns
unfolding large_of
returns c =
    let x = c.args.x in
    let range = exponent_range x c.requires.0 c.requires.1 in
    let e = c.exponent_field-e.ensures ∙ field_is x in
    let j = ap (λ (n : ℕ). n / 24) (c.saturating_sub-jv.ensures ∙ ap (λ (n : ℕ). n - 1049) e) ∙ sym (jv_is x) in
    let q0 = reckoned_is c.exponent_field-e.result (c.saturating_sub-jv.result / 24) (omega (arith, e, range)) (omega (arith, e, range, j, jv_is x)) in
    c.kernel.ensures ∙ rw (q0, c.last_piece.ensures.is, c.pieces-tx.ensures, c.scaled.ensures, j, e) refl
