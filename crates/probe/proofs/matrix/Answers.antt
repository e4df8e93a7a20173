use mathlib.Core.Path.{◌≡◌}
use Prim.Native.Nat.{◌+◌, ◌*◌}
use native.Mathlib.Omega.{arith}
use Rattle.probe.proofs.Rows.{rows_filled}
use Rattle.probe.proofs.matrix.Goals as goal

pub returns : goal.returns
returns g c =
    let n = g.row.N in
    rows_filled n n 0 c.args.input.now c.loop-k.row-items c.loop-k.invariant.0
    (λ j below.
    let from : n * j ≡ 0 + n * j = omega arith in
    rw from at (c.loop-k.invariant.1 j (omega arith)))
