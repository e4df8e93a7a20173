use mathlib.Core.Path.{sym, ap, ◌∙◌}
use mathlib.Core.List.{List, map}
use Prim.Native.Nat.{◌/◌}
use lib.ListN.{length, drop}
use lib.Ieee.{Float}
use Rattle.std.specs.List.{position_from, zip}
use Rattle.std.specs.Simd.{first_chunks}
use Rattle.std.proofs.lemmas.List.{drop-map}
use Rattle.groups.proofs.Rows.{points_of}
use Rattle.std.proofs.Common.{rules}
use Rattle.std.proofs.lemmas.Iterator.{YieldsList-from_slice, YieldsList-from_map, YieldsList-from_zip}
use Rattle.std.proofs.lemmas.Iterator.Adapters.{YieldsList-from_skip, position_from-zero}
use Rattle.std.proofs.lemmas.Iterator.Consumers.{YieldsList-at}
use Rattle.std.proofs.lemmas.Iterator.Search.{position_from_yields_List}
use Rattle.groups.specs.Groups.{width}
use Rattle.groups.specs.Row.{point_in, row_from}
use Rattle.geometry.specs.declared.point.Point3D.{Point3D}
use Rattle.boxes.specs.Segment.{segment_meets_box}
use Rattle.boxes.proofs.Listed.{segments_listed}
use Rattle.boxes.proofs.marching.first_segment.Goals as goal

pub returns : goal.returns
returns c =
    let l = c.args.points.now in
    let f = λ (m : List Float). point_in (row_from m 0) in
    let r = c.rows-rows.result.now in
    let n = length l / width in
    let b = c.args.b in
    let a =
    position_from_yields_List (λ (s : Point3D × Point3D). segment_meets_box s.0 s.1 b) c.position.new.self _ c.position.result c.position.ensures.ran
    (YieldsList-from_zip
    (YieldsList-at c.zip.ensures.first (YieldsList-from_map _ f (YieldsList-at c.map-starts.ensures.source (YieldsList-from_slice r c.iter.ensures.rest))
    c.map-starts.ensures.closure (λ x r q k. search rules)))
    (YieldsList-at c.zip.ensures.second (YieldsList-from_map _ f (YieldsList-at c.map-ends.ensures.source (YieldsList-from_skip 1
    (YieldsList-at c.skip.ensures.source (YieldsList-from_slice r c.iter-2.ensures.rest)) c.skip.ensures.count))
    c.map-ends.ensures.closure (λ x r q k. search rules))))
    (λ x b q k. search rules) in
    a
    ∙ position_from-zero (λ (s : Point3D × Point3D). segment_meets_box s.0 s.1 b) (zip (map f r) (map f (drop 1 r)))
    ∙ ap (λ (g : List (List Float)). position_from (λ (s : Point3D × Point3D). segment_meets_box s.0 s.1 b) 0 (zip (map f g) (map f (drop 1 g)))) c.rows-rows.ensures
    ∙ ap (λ (ends : List Point3D). position_from (λ (s : Point3D × Point3D). segment_meets_box s.0 s.1 b) 0 (zip (points_of l n) ends)) (sym (drop-map f 1 (first_chunks width n l)))
    ∙ segments_listed l n b
