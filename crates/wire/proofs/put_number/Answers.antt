use mathlib.Core.Path.{ap, ◌∙◌}
use Prim.Native.Nat.{ℕ}
use Rattle.loops.specs.Over.{over}
use Rattle.wire.specs.Wire.{uint_bytes, number_bytes}
use Rattle.wire.proofs.put_number.Goals as goal

pub returns : goal.returns
unfolding number_bytes
returns c =
    let g = c.args in
    c.put_uint.ensures ∙ ap (λ (n : ℕ). over g.bytes.now g.at (uint_bytes 8 n)) c.to_bits.ensures
