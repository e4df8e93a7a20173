use mathlib.Core.Path.{◌≡◌}
use mathlib.Core.Bool.{true, false}
use lib.Ieee.{Float}
use Rattle.number.specs.Operators.{◌<?◌}
use Rattle.number.specs.Helpers.{clamp_of}
use Rattle.number.proofs.clamp.Goals as goal

under : (x lo hi : Float) → (x <? lo) ≡ true → lo ≡ clamp_of x lo hi
under x lo hi h = rw h

over : (x lo hi : Float) → (x <? lo) ≡ false → (hi <? x) ≡ true → hi ≡ clamp_of x lo hi
over x lo hi n h = rw (n, h)

between : (x lo hi : Float) → (x <? lo) ≡ false → (hi <? x) ≡ false → x ≡ clamp_of x lo hi
between x lo hi n h = rw (n, h)

pub returns-then-x-lo : goal.returns-then-x-lo
returns-then-x-lo c =
    let a = c.args in
    under a.x a.lo a.hi c.if-x-lo.true

pub returns-then-hi-x : goal.returns-then-hi-x
returns-then-hi-x c =
    let a = c.args in
    over a.x a.lo a.hi c.if-x-lo.false c.if-hi-x.true

pub returns-else-hi-x : goal.returns-else-hi-x
returns-else-hi-x c =
    let a = c.args in
    between a.x a.lo a.hi c.if-x-lo.false c.if-hi-x.false
