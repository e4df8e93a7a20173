-- `leaving` of marching.rs. Definitions only.
use Rattle.std.specs.Prelude.{ℕ, Float, Option, Some, None, option_map}
use Rattle.loops.specs.Loop.{pick}
use Rattle.number.specs.Operators.{◌⊖◌, ◌⊘◌, ◌<?◌}
use Rattle.patch.specs.declared.patch.Patch.{Patch}
use Rattle.patch.specs.declared.patch.Window.{Window}
use Rattle.patch.specs.declared.patch.Parameters.{Parameters}
use Rattle.marching.specs.declared.leaving.Exit.{Exit}
use Rattle.marching.specs.declared.leaving.First.{First}

-- the exit of parameter k over a bound, at a fraction of the move
abbrev pub exit_at : ℕ → Float → Float → First
exit_at k bound fraction = record { exit = record { index = k; bound = bound }; fraction = fraction }

-- "the least fraction wins, the lower index on a tie; a NaN one stays if found first"
unfoldable pub lesser_of : Option First → ℕ → Float → Float → Option First
lesser_of None k bound fraction = Some (exit_at k bound fraction)
lesser_of (Some f) k bound fraction = pick (fraction <? f.fraction) (Some (exit_at k bound fraction)) (Some f)

-- the part of the move from x to y at which it is on the bound
abbrev pub fraction_of : Float → Float → Float → Float
fraction_of bound x y = (bound ⊖ x) ⊘ (y ⊖ x)

-- parameter k moves from x to y: beyond the high end, beyond the low end, or neither (a NaN too); a marked one has no window that applies
unfoldable pub consider_of : Option First → Window → ℕ → Float → Float → Option First
consider_of so w k x y =
    pick w.turn so
    (pick (w.high <? y) (lesser_of so k w.high (fraction_of w.high x y))
    (pick (y <? w.low) (lesser_of so k w.low (fraction_of w.low x y)) so))

-- the first exit of the four, u1, v1, u2, v2 in turn
unfoldable pub first_exit : Patch → Patch → Parameters → Parameters → Option First
first_exit a b x y =
    consider_of (consider_of (consider_of (consider_of None a.u 0 x.u1 y.u1) a.v 1 x.v1 y.v1) b.u 2 x.u2 y.u2) b.v 3 x.v2 y.v2

-- index and bound, without the fraction
abbrev pub exit_of : First → Exit
exit_of f = f.exit

-- `leaving` of the move from x to y
unfoldable pub leaving_of : Patch → Patch → Parameters → Parameters → Option Exit
leaving_of a b x y = option_map exit_of (first_exit a b x y)
