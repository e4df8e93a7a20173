-- "Dropping the run boxes: the rounded segment test can accept what a box keeps out." Two traces on which it does.
use Rattle.std.specs.Prelude.{Ok}
use mathlib.Core.Path.{◌≡◌, refl}
use mathlib.Core.Bool.{true, false}
use mathlib.Core.List.{List, ◌∷◌, ◌++◌}
use Prim.Native.Nat.{◌-◌}
use lib.ListN.{replicate}
use lib.Ieee.{Float}
use Rattle.number.specs.Operators.{bits}
use Rattle.groups.specs.Groups.{width}
use Rattle.geometry.specs.declared.tolerance.Tolerance.{Tolerance}
use Rattle.boxes.specs.declared.boxtree.Aabb.{Aabb}
use Rattle.boxes.specs.Bounds.{boxes_apart, bounds_of}
use Rattle.boxes.specs.Crosses.{grown_of, segment_meets}
use Rattle.boxes.specs.declared.explain.Reason.TheVariants.{WholeApart, NoneMet}
use Rattle.boxes.specs.Crossing.{crossing_of}
use Rattle.boxes.specs.Explain.{explain_of}
use Rattle.boxes.proofs.Computing.{computing}

abbrev pub at : Float → Float → List Float
at x y = x ∷ y ∷ bits 0 ∷ replicate (width - 3) (bits 0)

-- confusion 2^-20
abbrev pub tol : Tolerance
tol = record { confusion = bits 0x3eb0_0000_0000_0000; angular = bits 0x3d71_9799_812d_ea11; parametric = bits 0 }

-- a point on the x axis whose box, grown, starts just past 0
abbrev pub box : Aabb
box = record {
  low = record { x = bits 0x3f7f_4000_0000_0001; y = bits 0; z = bits 0 };
  high = record { x = bits 0x3f7f_4000_0000_0001; y = bits 0; z = bits 0 };
}

-- x = -0.3, -0.2, -0.1, 0
abbrev pub short : List Float
short =
    at (bits 0xbfd3_3333_3333_3333) (bits 0) ++ at (bits 0xbfc9_9999_9999_999a) (bits 0) ++ at (bits 0xbfb9_9999_9999_999a) (bits 0)
    ++ at (bits 0) (bits 0)

-- the whole trace's box keeps out what the segment test accepts at the last segment: it is apart on axis 0
pub whole_keeps_out : (crossing_of tol short 4 box ≡ (Ok false)) × (segment_meets short (grown_of box tol.confusion) 2 ≡ true)
    × (explain_of tol short 4 box ≡ Ok (WholeApart 0))
unfolding computing
whole_keeps_out = (refl, refl, refl)

-- x = -1.6, -1.5 and on to 0 at point 16, where the first run ends; then (0, 0.1, 0) and (0.1, 0.1, 0)
abbrev pub long : List Float
long =
    at (bits 0xbff9_9999_9999_999a) (bits 0) ++ at (bits 0xbff8_0000_0000_0000) (bits 0) ++ at (bits 0xbff6_6666_6666_6666) (bits 0)
    ++ at (bits 0xbff4_cccc_cccc_cccd) (bits 0) ++ at (bits 0xbff3_3333_3333_3333) (bits 0) ++ at (bits 0xbff1_9999_9999_999a) (bits 0)
    ++ at (bits 0xbff0_0000_0000_0000) (bits 0) ++ at (bits 0xbfec_cccc_cccc_cccd) (bits 0) ++ at (bits 0xbfe9_9999_9999_999a) (bits 0)
    ++ at (bits 0xbfe6_6666_6666_6666) (bits 0) ++ at (bits 0xbfe3_3333_3333_3333) (bits 0) ++ at (bits 0xbfe0_0000_0000_0000) (bits 0)
    ++ at (bits 0xbfd9_9999_9999_999a) (bits 0) ++ at (bits 0xbfd3_3333_3333_3333) (bits 0) ++ at (bits 0xbfc9_9999_9999_999a) (bits 0)
    ++ at (bits 0xbfb9_9999_9999_999a) (bits 0) ++ at (bits 0) (bits 0) ++ at (bits 0) (bits 0x3fb9_9999_9999_999a)
    ++ at (bits 0x3fb9_9999_9999_999a) (bits 0x3fb9_9999_9999_999a)

-- the first run's box keeps out what the segment test accepts at its last segment, though the whole trace's box is not apart; so
-- the two segments of the second run are counted, and none of the first
pub run_keeps_out :
    (crossing_of tol long 19 box ≡ (Ok false)) × (segment_meets long (grown_of box tol.confusion) 15 ≡ true)
    × (boxes_apart (bounds_of long 19) (grown_of box tol.confusion) ≡ false)
    × (explain_of tol long 19 box ≡ Ok (NoneMet 2))
unfolding computing
run_keeps_out = (refl, refl, refl, refl)
