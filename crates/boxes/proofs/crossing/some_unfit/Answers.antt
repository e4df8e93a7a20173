use mathlib.Core.Path.{ap, ◌∙◌}
use mathlib.Core.Bool.{not}
use mathlib.Core.List.{List, map}
use lib.Ieee.{Float}
use Rattle.std.specs.List.{list_all}
use Rattle.std.proofs.Common.{rules}
use Rattle.std.proofs.lemmas.Iterator.{YieldsList-from_slice, YieldsList-from_map}
use Rattle.std.proofs.lemmas.Iterator.Consumers.{YieldsList-at}
use Rattle.std.proofs.lemmas.Iterator.Search.{all_from_yields_List}
use Rattle.groups.specs.Row.{point_in, row_from}
use Rattle.geometry.specs.Point.{point_fit}
use Rattle.groups.proofs.Rows.{points_taken}
use Rattle.boxes.proofs.Listed.{unfit_listed}
use Rattle.boxes.proofs.crossing.some_unfit.Goals as goal

pub returns : goal.returns
returns c =
    let l = c.args.points.now in
    let f = λ (m : List Float). point_in (row_from m 0) in
    let a =
    all_from_yields_List point_fit _ _ _ c.all.ensures.ran
    (YieldsList-from_map _ f (YieldsList-at c.map.ensures.source (YieldsList-from_slice c.rows-rows.result.now c.iter.ensures.rest)) c.map.ensures.closure (λ x r q k. search rules))
    (λ x b q k. search rules) in
    ap not (a ∙ ap (λ (g : List (List Float)). list_all point_fit (map f g)) c.rows-rows.ensures ∙ ap (list_all point_fit) (points_taken l c.args.count c.requires))
    ∙ unfit_listed l c.args.count
