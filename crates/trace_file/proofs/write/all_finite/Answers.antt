use mathlib.Core.Path.{sym, ◌∙◌}
use lib.Ieee.Scale.{finite}
use Rattle.std.proofs.Common.{rules}
use Rattle.std.proofs.lemmas.Iterator.{YieldsList-from_slice}
use Rattle.std.proofs.lemmas.Iterator.Search.{all_from_yields_List}
use Rattle.trace_file.proofs.Numbers.{finite_listed}
use Rattle.trace_file.proofs.write.all_finite.Goals as goal

pub returns : goal.returns
returns c =
    let l = c.args.numbers.now in
    all_from_yields_List finite _ _ _ c.all.ensures.ran (YieldsList-from_slice l c.iter.ensures.rest) (λ x b q k. search rules)
    ∙ sym (finite_listed l)
