use mathlib.Core.Path.{◌≡◌}
use mathlib.Core.Bool.{true}
use Rattle.number.specs.Operators.{◌<?◌}
use Rattle.number.specs.Helpers.{max_of}
use Rattle.number.proofs.max.Goals as goal

pub returns-then-is_nan : goal.returns-then-is_nan
unfolding max_of
returns-then-is_nan c = rw (← c.is_nan.ensures.value, c.if-is_nan.true)

pub returns-then-is_nan-2 : goal.returns-then-is_nan-2
unfolding max_of
returns-then-is_nan-2 c = rw (← c.is_nan.ensures.value, ← c.is_nan-else-is_nan.ensures.value, c.if-is_nan.false, c.if-is_nan-2.true)

pub returns-then-a-b : goal.returns-then-a-b
unfolding max_of
returns-then-a-b c =
    let apart : (c.args.a <? c.args.b) ≡ true = c.if-a-b.true in
    rw (← c.is_nan.ensures.value, ← c.is_nan-else-is_nan.ensures.value, c.if-is_nan.false, c.if-is_nan-2.false, apart)

pub returns-else-a-b : goal.returns-else-a-b
unfolding max_of
returns-else-a-b c = rw (← c.is_nan.ensures.value, ← c.is_nan-else-is_nan.ensures.value, c.if-is_nan.false, c.if-is_nan-2.false, c.if-a-b.false)
