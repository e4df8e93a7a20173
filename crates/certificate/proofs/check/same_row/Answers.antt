use mathlib.Core.Path.{refl, ap₂, ◌∙◌}
use mathlib.Core.List.{List}
use lib.Ieee.{Float}
use Rattle.std.specs.List.{list_all, zip}
use Rattle.std.proofs.Common.{rules}
use Rattle.std.proofs.lemmas.Iterator.{YieldsList-from_slice, YieldsList-from_zip}
use Rattle.std.proofs.lemmas.Iterator.Consumers.{YieldsList-at}
use Rattle.std.proofs.lemmas.Iterator.Search.{all_from_yields_List}
use Rattle.number.specs.Helpers.{same_bits}
use Rattle.groups.specs.Row.{numbers_of}
use Rattle.certificate.proofs.Iterations.{same_zip}
use Rattle.certificate.proofs.check.same_row.Goals as goal

pub returns : goal.returns
returns c =
    let test = λ (s : Float × Float). same_bits s.0 s.1 in
    let left = YieldsList-from_slice c.numbers-left.result c.iter.ensures.rest in
    let right = YieldsList-from_slice c.numbers-right.result c.iter-2.ensures.rest in
    let a = all_from_yields_List test c.all.new.self _ c.all.result c.all.ensures.ran (YieldsList-from_zip (YieldsList-at c.zip-pairs.ensures.first left) (YieldsList-at c.zip-pairs.ensures.second right)) (λ x b q k. search rules) in
    a ∙ ap₂ (λ (l m : List Float). list_all test (zip l m)) c.numbers-left.ensures c.numbers-right.ensures ∙ same_zip (numbers_of c.args.p) (numbers_of c.args.q) refl
