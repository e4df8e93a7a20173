use mathlib.Core.Path.{◌≡◌, sym, ◌∙◌}
use mathlib.Core.Bool.{true, false}
use native.Mathlib.Omega.{arith}
use Rattle.loops.proofs.First.{first_again, first_leave, first_done}
use Rattle.boxes.specs.Explain.{apart_at, first_apart}
use Rattle.boxes.proofs.boxtree.first_apart.Goals as goal

pub returns-then-apart_on : goal.returns-then-apart_on
unfolding first_apart
returns-then-apart_on c =
    let a = c.args.a in let b = c.args.b in
    let x : apart_at a b 0 ≡ true = sym c.apart_on.ensures ∙ c.if-apart_on.true in
    first_leave (apart_at a b) 0 3 (omega arith) x

pub returns-then-apart_on-2 : goal.returns-then-apart_on-2
unfolding first_apart
returns-then-apart_on-2 c =
    let a = c.args.a in let b = c.args.b in
    let x : apart_at a b 0 ≡ false = sym c.apart_on.ensures ∙ c.if-apart_on.false in
    let y : apart_at a b 1 ≡ true = sym c.apart_on-2.ensures ∙ c.if-apart_on-2.true in
    first_leave (apart_at a b) 1 3 (omega arith) y ∙ first_again (apart_at a b) 0 3 (omega arith) x

pub returns-then-apart_on-3 : goal.returns-then-apart_on-3
unfolding first_apart
returns-then-apart_on-3 c =
    let a = c.args.a in let b = c.args.b in
    let x : apart_at a b 0 ≡ false = sym c.apart_on.ensures ∙ c.if-apart_on.false in
    let y : apart_at a b 1 ≡ false = sym c.apart_on-2.ensures ∙ c.if-apart_on-2.false in
    let z : apart_at a b 2 ≡ true = sym c.apart_on-3.ensures ∙ c.if-apart_on-3.true in
    first_leave (apart_at a b) 2 3 (omega arith) z ∙ first_again (apart_at a b) 1 3 (omega arith) y ∙ first_again (apart_at a b) 0 3 (omega arith) x

pub returns : goal.returns
unfolding first_apart
returns c =
    let a = c.args.a in let b = c.args.b in
    let x : apart_at a b 0 ≡ false = sym c.apart_on.ensures ∙ c.if-apart_on.false in
    let y : apart_at a b 1 ≡ false = sym c.apart_on-2.ensures ∙ c.if-apart_on-2.false in
    let z : apart_at a b 2 ≡ false = sym c.apart_on-3.ensures ∙ c.if-apart_on-3.false in
    first_done (apart_at a b) 3 3 (omega arith) ∙ first_again (apart_at a b) 2 3 (omega arith) z ∙ first_again (apart_at a b) 1 3 (omega arith) y
    ∙ first_again (apart_at a b) 0 3 (omega arith) x
