-- Each iteration takes the product of the next two entries behind `from` off.
use mathlib.Core.Path.{◌≡◌, subst, ap, ◌∙◌}
use Prim.Native.Nat.{ℕ, ◌+◌}
use native.Mathlib.Omega.{arith}
use lib.Ieee.{Float, nan}
use lib.ListN.{length, drop, length-drop}
use Rattle.std.proofs.Common.{Bor}
use Rattle.std.specs.Iterator.Adapters.{zip_first, zip_second}
use Rattle.std.specs.Slice.Iter.{iter_rest}
use Rattle.std.proofs.lemmas.List.{length_push}
use Rattle.std.proofs.lemmas.Slice.Zip.{zip_turn, zip_end}
use Rattle.number.specs.Operators.{◌⊖◌, ◌⊗◌}
use Rattle.loops.specs.Loop.{ranged}
use Rattle.loops.proofs.Loop.{ranged_again, ranged_done}
use Rattle.solve.specs.Solve.{less_product, substituted}
use Rattle.solve.proofs.Laws.{rest_taken, product_off}
use Rattle.solve.proofs.substitute.Goals as goal
use Rattle.solve.proofs.substitute.Given.{Over}
use Rattle.solve.proofs.substitute.Goals.{After-into_iter-entry-iterator}

-- the iterator begins with the two rests
first_is : {g : Over} (c : After-into_iter-entry-iterator g) → iter_rest (zip_first c.into_iter-entry-iterator.result) ≡ drop c.args.from c.args.row.now
first_is c = ap (λ z. iter_rest (zip_first z)) c.into_iter-entry-iterator.ensures.into_iter_gives ∙ ap iter_rest c.zip-entry-items.ensures.first ∙ c.iter.ensures.rest ∙ rest_taken c.args.row.now c.args.from

second_is : {g : Over} (c : After-into_iter-entry-iterator g) → iter_rest (zip_second c.into_iter-entry-iterator.result) ≡ drop c.args.from c.args.x.now
second_is c = ap (λ z. iter_rest (zip_second z)) c.into_iter-entry-iterator.ensures.into_iter_gives ∙ c.zip-entry-items.ensures.second.0 ∙ rest_taken c.args.x.now c.args.from

pub loop-entry-preserved : goal.loop-entry-preserved
loop-entry-preserved g c =
    let n = g.row.N in
    let s = c.loop-entry in
    let from = c.args.from in
    let row = c.args.row.now in
    let x = c.args.x.now in
    let f = less_product row x in
    let k = length s.yielded in
    let p : Bor Float × Bor Float = (c.in-Some.entry, c.in-Some.y) in
    let made = (goal.at.loop-entry-preserved g c).After-into_iter-entry-iterator in
    let t = zip_turn (drop from row) (drop from x) s.yielded _ s.entry-iterator c.next.new.self _ (first_is made) (second_is made) s.yielded_by p c.in-Some.is c.next.ensures.steps in
    let l = length-drop from row in
    let e = length_push s.yielded p in
    let next = ranged_again f (from + k) n (omega arith) (product_off row x from k s.acc (t.2 nan) (t.3 nan)) s.invariant in
    subst (λ (i : ℕ). ranged f i n (s.acc ⊖ c.in-Some.entry.now ⊗ c.in-Some.y.now) ≡ substituted n row x from c.args.acc) (omega arith) next

pub returns : goal.returns
returns g c =
    let s = c.loop-entry in
    let from = c.args.from in
    let row = c.args.row.now in
    let x = c.args.x.now in
    let made = (goal.at.returns g c).After-into_iter-entry-iterator in
    let t = zip_end (drop from row) (drop from x) s.yielded _ s.entry-iterator c.next.new.self _ (first_is made) (second_is made) s.yielded_by c.in-None.is c.next.ensures.steps in
    let l = length-drop from row in
    let m = length-drop from x in
    ranged_done (less_product row x) (from + length s.yielded) g.row.N {s = s.acc} {u = substituted g.row.N row x from c.args.acc} (omega arith) s.invariant
