use borrow.Author.Tests.{ne_eqb}
use Rattle.std.proofs.Common.{◌≡◌, arith}
use Rattle.meeting.specs.Correction.{parameter_of}
use Rattle.meeting.proofs.parameters.parameter.Goals as goal

pub returns-in-0 : goal.returns-in-0
unfolding parameter_of
returns-in-0 c = rw c.in-0.is

pub returns-in-1 : goal.returns-in-1
unfolding parameter_of
returns-in-1 c = rw c.in-1.is

pub returns-in-2 : goal.returns-in-2
unfolding parameter_of
returns-in-2 c = rw c.in-2.is

pub returns-in_default : goal.returns-in_default
unfolding parameter_of
returns-in_default c =
    let p : c.args.k ≡ 0 → ⊥ = λ e. omega arith in
    let q : c.args.k ≡ 1 → ⊥ = λ e. omega arith in
    let r : c.args.k ≡ 2 → ⊥ = λ e. omega arith in
    rw (ne_eqb _ _ p, ne_eqb _ _ q, ne_eqb _ _ r)
