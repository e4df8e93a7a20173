use Rattle.std.proofs.Common.{◌≡◌, Bool, true, false, Option, Some, None, true≢false, refl, sym, ◌∙◌, rules}
use Rattle.number.specs.Operators.{◌<?◌}
use Rattle.loops.proofs.Choice.{pick_taken, pick_left}
use Rattle.marching.specs.declared.leaving.First.{First}
use Rattle.marching.specs.Leaving.{lesser_of}
use Rattle.marching.proofs.leaving.lesser.Goals as goal

-- whether the other exit takes the place of the one so far
abbrev comes_first : First → Option First → Bool
comes_first other None = true
comes_first other (Some found) = other.fraction <? found.fraction

taken : (other : First) (first : Option First) → comes_first other first ≡ true → Some other ≡ lesser_of first other.exit.index other.exit.bound other.fraction
unfolding lesser_of
taken other None e = refl
taken other (Some found) e = pick_taken _ e refl

left : (other : First) (first : Option First) → comes_first other first ≡ false → first ≡ lesser_of first other.exit.index other.exit.bound other.fraction
unfolding lesser_of
left other None e = absurd (true≢false e)
left other (Some found) e = pick_left _ e refl

pub returns-then-is_none_or : goal.returns-then-is_none_or
returns-then-is_none_or c =
    let e : c.is_none_or.result ≡ comes_first c.args.other c.args.first = search rules in
    taken c.args.other c.args.first (sym e ∙ c.if-is_none_or.true)

pub returns-else-is_none_or : goal.returns-else-is_none_or
returns-else-is_none_or c =
    let e : c.is_none_or.result ≡ comes_first c.args.other c.args.first = search rules in
    left c.args.other c.args.first (sym e ∙ c.if-is_none_or.false)
