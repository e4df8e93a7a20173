-- Each iteration finds an entry, from the last up.
use mathlib.Core.Path.{◌≡◌, ap, ◌∙◌}
use Prim.Native.Nat.{ℕ, ◌+◌, ◌-◌}
use native.Mathlib.Omega.{arith}
use Rattle.loops.proofs.Loop.{ranged_again, ranged_done}
use Rattle.solve.specs.Solve.{system, back_row, back_body}
use Rattle.solve.proofs.Laws.{row_solved}
use Rattle.solve.proofs.back_substitution.Goals as goal

pub loop-row-preserved : goal.loop-row-preserved
loop-row-preserved g c =
    let n = g.row.N in
    let s = c.loop-row in
    let m = c.args.m.now in
    let b = c.args.b.now in
    let row : ℕ = s.row - 1 in
    let i : ℕ = n - s.row in
    let f = back_body n (system m b) in
    let at : row ≡ n - 1 - i = omega arith in
    let e = row_solved n row m b s.x c.substitute.ensures ∙ ap (λ (r : ℕ). back_row n (system m b) r s.x) at in
    let next = ranged_again f i n (omega arith) e s.invariant in
    let up : i + 1 ≡ n - row = omega arith in
    rw up at next

pub returns : goal.returns
returns g c = ranged_done _ _ _ (omega arith) c.loop-row.invariant
