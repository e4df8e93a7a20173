use mathlib.Core.Path.{◌≡◌, ap, ◌∙◌}
use mathlib.Core.List.{List, ◌++◌, append_assoc}
use Prim.Native.Nat.{ℕ, ◌+◌, ◌-◌}
use native.Mathlib.Omega.{arith}
use lib.Ieee.{Float}
use lib.ListN.{length, take, drop, set, drop_of_length-le}
use lib.Seq.{drop-drop, sets-eq}
use borrow.Rule.Slice.PartMut.{put_mid}
use Rattle.groups.specs.Groups.{width}
use Rattle.groups.specs.declared.row.Row.{Row}
use Rattle.groups.specs.Row.{numbers_of}
use Rattle.std.proofs.lemmas.List.Edits.{length-between}
use Rattle.walk.specs.Lent.{placed}
use Rattle.walk.proofs.lent.put.Goals as goal

-- seven stores over seven numbers
stored : (l : List Float) (r : Row) → length l ≡ width → set (set (set (set (set (set (set l 0 r.x) 1 r.y) 2 r.z) 3 r.u1) 4 r.v1) 5 r.u2) 6 r.v2 ≡ numbers_of r
stored l r h = sets-eq (numbers_of r) l 0 (omega (arith, h)) ∙ ap (λ (z : List Float). numbers_of r ++ z) (drop_of_length-le l {i = width} (omega (arith, h)))

-- the sub-slice as it comes back
back : (l : List Float) (at : ℕ) (r : Row) {part : List Float} → part ≡ numbers_of r → put_mid at (at + width - at) l part ≡ placed l at r
back l at r e = rw (e, (let gap : at + width - at ≡ width = omega arith in gap), drop-drop, append_assoc)

pub returns : goal.returns
returns c =
    let g = c.args in
    let e = length-between g.out.now g.at (g.at + width) c.requires in
    back g.out.now g.at g.row (stored (take (g.at + width - g.at) (drop g.at g.out.now)) g.row (e ∙ omega arith))
