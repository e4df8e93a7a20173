use mathlib.Core.Path.{◌≡◌}
use mathlib.Core.Bool.{true}
use Rattle.number.specs.Operators.{◌<?◌}
use Rattle.number.specs.Helpers.{min_of}
use Rattle.number.proofs.min.Goals as goal

pub returns-then-is_nan : goal.returns-then-is_nan
unfolding min_of
returns-then-is_nan c = rw (← c.is_nan.ensures.value, c.if-is_nan.true)

pub returns-then-is_nan-2 : goal.returns-then-is_nan-2
unfolding min_of
returns-then-is_nan-2 c = rw (← c.is_nan.ensures.value, ← c.is_nan-else-is_nan.ensures.value, c.if-is_nan.false, c.if-is_nan-2.true)

pub returns-then-b-a : goal.returns-then-b-a
unfolding min_of
returns-then-b-a c =
    let apart : (c.args.b <? c.args.a) ≡ true = c.if-b-a.true in
    rw (← c.is_nan.ensures.value, ← c.is_nan-else-is_nan.ensures.value, c.if-is_nan.false, c.if-is_nan-2.false, apart)

pub returns-else-b-a : goal.returns-else-b-a
unfolding min_of
returns-else-b-a c = rw (← c.is_nan.ensures.value, ← c.is_nan-else-is_nan.ensures.value, c.if-is_nan.false, c.if-is_nan-2.false, c.if-b-a.false)
