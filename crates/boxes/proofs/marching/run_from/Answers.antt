use mathlib.Core.Path.{◌≡◌, ap, ◌∙◌}
use mathlib.Core.List.{List}
use lib.Ieee.{Float}
use Prim.Native.Nat.{ℕ, ◌+◌, ◌*◌, min}
use native.Mathlib.Omega.{arith}
use lib.ListN.{length, take, drop}
use Rattle.std.proofs.lemmas.List.{take_min}
use Rattle.groups.specs.Groups.{width}
use Rattle.groups.proofs.Groups.{part_from}
use Rattle.boxes.specs.Crosses.{run_length, run_from}
use Rattle.boxes.proofs.marching.run_from.Goals as goal

pub returns : goal.returns
unfolding run_from
returns c =
    let l = c.args.points.now in
    let rest = drop (width * c.args.first) l in
    let most = width * (run_length + 1) in
    let turned : min (length rest) most ≡ min most (length rest) = omega arith in
    let part = part_from (width * c.args.first) l in
    ap (take c.min.result) part
    ∙ ap (λ (k : ℕ). take k rest) (c.min.ensures ∙ ap (λ (r : List Float). min (length r) most) part ∙ turned) ∙ take_min most rest
