-- Each size has its solver.
use mathlib.Core.Path.{◌≡◌}
use native.Mathlib.Omega.{arith}
use borrow.Author.Tests.{ne_eqb}
use Rattle.probe.specs.Probe.{probe_of}
use Rattle.probe.proofs.probe_solve.Goals as goal

pub returns-in-2 : goal.returns-in-2
unfolding probe_of
returns-in-2 c = rw c.in-2.is c.probe_2x2.ensures

pub returns-in-3 : goal.returns-in-3
unfolding probe_of
returns-in-3 c = rw c.in-3.is c.probe_square.ensures

pub returns-in-4 : goal.returns-in-4
unfolding probe_of
returns-in-4 c = rw c.in-4.is c.probe_square-in-4.ensures

pub returns-in_default : goal.returns-in_default
unfolding probe_of
returns-in_default c =
    let two : (c.args.size ≡ 2 → ⊥) = λ e. omega arith in
    let three : (c.args.size ≡ 3 → ⊥) = λ e. omega arith in
    let four : (c.args.size ≡ 4 → ⊥) = λ e. omega arith in
    rw (ne_eqb c.args.size 2 two, ne_eqb c.args.size 3 three, ne_eqb c.args.size 4 four)
