use mathlib.Core.Path.{◌≡◌, sym, ap, ap₂, ◌∙◌}
use mathlib.Core.List.{List, [], map}
use Prim.Native.Nat.{◌/◌, ◌<◌}
use native.Mathlib.Omega.{arith}
use lib.ListN.{length, drop, get_or}
use lib.Ieee.{Float}
use Rattle.std.proofs.Common.{rules}
use Rattle.std.specs.List.{fold}
use Rattle.std.specs.Simd.{first_chunks}
use Rattle.std.proofs.lemmas.List.{drop-map}
use Rattle.std.proofs.lemmas.Iterator.{YieldsList-from_slice, YieldsList-from_map}
use Rattle.std.proofs.lemmas.Iterator.Consumers.{YieldsList-at, fold_from_yields_List}
use Rattle.groups.proofs.Groups.{part_from}
use Rattle.groups.specs.Groups.{width}
use Rattle.groups.specs.Row.{point_in, row_from, point_at}
use Rattle.groups.proofs.Rows.{group_of, row_group}
use Rattle.boxes.specs.Bounds.{point_box, cover_of}
use Rattle.boxes.proofs.Listed.{bounds_listed}
use Rattle.boxes.proofs.pieces.bounding_box.Goals as goal

pub returns : goal.returns
returns c =
    let l = c.args.points.now in
    let f = λ (m : List Float). point_in (row_from m 0) in
    let r = c.rows-rows.result.now in
    let n = length l / width in
    let a =
    fold_from_yields_List _ cover_of c.point_box-first.result c.fold.result c.fold.ensures.ran
    (YieldsList-from_map _ f (YieldsList-at c.map.ensures.source (YieldsList-from_slice (drop 1 r) (c.iter.ensures.rest ∙ part_from 1 r))) c.map.ensures.closure (λ x r q k. search rules))
    (λ a x b q k. search rules) in
    let h : 0 < n = omega (arith, c.requires) in
    let first : c.point_from.result ≡ point_at l 0 =
    c.point_from.ensures ∙ ap (λ (g : List (List Float)). f (get_or g 0 [])) c.rows-rows.ensures
    ∙ ap f (group_of width n 0 l [] h) ∙ ap point_in (row_group l 0) in
    a
    ∙ ap (λ (g : List (List Float)). fold cover_of c.point_box-first.result (map f (drop 1 g))) c.rows-rows.ensures
    ∙ ap₂ (fold cover_of) (c.point_box-first.ensures ∙ ap point_box first) (sym (drop-map f 1 (first_chunks width n l))) ∙ bounds_listed l n h
