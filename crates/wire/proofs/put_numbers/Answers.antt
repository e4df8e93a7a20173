use mathlib.Core.Path.{ap, ◌∙◌}
use mathlib.Core.List.{List}
use native.Mathlib.Omega.{arith}
use lib.Ieee.{Float}
use Rattle.loops.specs.Over.{over}
use Rattle.std.proofs.lemmas.List.{take_all}
use Rattle.wire.specs.Wire.{numbers_bytes}
use Rattle.wire.proofs.Several.{put_start, put_again}
use Rattle.wire.proofs.put_numbers.Goals as goal

pub loop-k-init : goal.loop-k-init
loop-k-init c = let a = c.args in put_start a.bytes.now a.at a.numbers.now

pub loop-k-preserved : goal.loop-k-preserved
loop-k-preserved c =
    let a = c.args in
    put_again a.bytes.now a.at a.numbers.now c.loop-k.k c.loop-k-test.true (omega arith) c.loop-k.invariant c.put_number.ensures

pub returns : goal.returns
returns c =
    let a = c.args in
    let all = take_all c.loop-k.k a.numbers.now c.loop-k-test.false in
    c.loop-k.invariant ∙ ap (λ (l : List Float). over a.bytes.now a.at (numbers_bytes l)) all
