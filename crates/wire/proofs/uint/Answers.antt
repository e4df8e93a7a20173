use native.Mathlib.Omega.{arith}
use Rattle.wire.specs.Wire.{AllBytes}
use Rattle.wire.proofs.Laws.{uint_below, taken_none, taken_more, taken_below, taken_all}
use Rattle.wire.proofs.uint.Goals as goal

pub loop-k-init : goal.loop-k-init
loop-k-init g c =
    let e = c.enumerate-k-items.ensures in
    let t = taken_none c.args.bytes.now c.args.at g.row.N c.iter.result.rest.now c.requires.there c.iter.ensures.rest in
    rw (c.into_iter-k-iterator.ensures.into_iter_gives, e.count, e.source, c.rev.ensures.source) t

-- with one byte more
pub loop-k-preserved : goal.loop-k-preserved
loop-k-preserved g c =
    let a = c.args in
    let i = c.loop-k.k-iterator in
    let s = c.in-Some.ensures.steps in
    let d : AllBytes a.bytes.now = λ j. omega (arith, c.type_inv.bytes j) in
    let t = taken_more a.bytes.now a.at g.row.N i.count c.in-Some.b.now c.loop-k.x c.next.new.self.iter.iter.rest.now i.iter.iter.rest.now c.requires.few d c.loop-k.invariant s.0 in
    rw (s.2, s.1, c.from.ensures) t

pub overflow_add-x : goal.overflow_add-x
overflow_add-x g c =
    let a = c.args in
    let d : AllBytes a.bytes.now = λ j. omega (arith, c.type_inv.bytes j) in
    let small = taken_below a.bytes.now a.at g.row.N c.next.new.self.count _ c.next.new.self.iter.iter.rest.now c.requires.few d (loop-k-preserved g c) in
    omega (arith, small)

-- where no byte is left
pub returns-clause-value : goal.returns-clause-value
returns-clause-value g c =
    let i = c.loop-k.k-iterator in
    taken_all c.args.bytes.now c.args.at g.row.N i.count c.loop-k.x i.iter.iter.rest.now c.in-None.ensures.steps.0.0 c.loop-k.invariant

pub returns-clause-small : goal.returns-clause-small
returns-clause-small g c = rw (returns-clause-value g c) (uint_below g.row.N c.args.bytes.now c.args.at (λ j. omega (arith, c.type_inv.bytes j)))
