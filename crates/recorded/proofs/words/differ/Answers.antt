use Rattle.std.proofs.Common.{rules, ◌∙◌, ℕ, ◌*◌, Bool, false, true, ◌==◌}
use borrow.Author.Tests.{tests}
use lib.Ieee.{Float, binary64, to_bits, nan}
use Rattle.std.proofs.lemmas.Iterator.{YieldsList-from_slice}
use Rattle.std.proofs.lemmas.Iterator.Consumers.{YieldsList-from_enumerate}
use Rattle.std.proofs.lemmas.Iterator.Search.{any_from_yields_List}
use Rattle.loops.specs.Loop.{pick}
use Rattle.recorded.specs.Words.{word_at}
use Rattle.recorded.proofs.Search.{any_over}
use Rattle.recorded.proofs.words.differ.Goals as goal

pub returns : goal.returns
returns c =
    let g = c.args in
    let unlike : ℕ × Float → Bool = λ p. pick (to_bits binary64 p.1 == word_at g.words.now (8 * p.0)) false true in
    any_from_yields_List unlike _ _ c.any.result c.any.ensures.ran (YieldsList-from_enumerate (YieldsList-from_slice g.numbers.now (cc)) (cc)) (λ x b q k. search (rules, tests))
    ∙ any_over nan unlike g.numbers.now
