use borrow.Author.Tests.{ne_eqb}
use Rattle.std.proofs.Common.{◌≡◌, arith}
use Rattle.arctangent.specs.Arctangent.{by_signs}
use Rattle.arctangent.proofs.arctangent.by_signs.Goals as goal

pub returns-in-0 : goal.returns-in-0
unfolding by_signs
returns-in-0 c = rw c.in-0.is

pub returns-in-1 : goal.returns-in-1
unfolding by_signs
returns-in-1 c = rw c.in-1.is

pub returns-in-2 : goal.returns-in-2
unfolding by_signs
returns-in-2 c = rw c.in-2.is

pub returns-in_default : goal.returns-in_default
unfolding by_signs
returns-in_default c =
    let p : c.args.m ≡ 0 → ⊥ = λ e. omega arith in
    let q : c.args.m ≡ 1 → ⊥ = λ e. omega arith in
    let r : c.args.m ≡ 2 → ⊥ = λ e. omega arith in
    rw (ne_eqb _ _ p, ne_eqb _ _ q, ne_eqb _ _ r)
