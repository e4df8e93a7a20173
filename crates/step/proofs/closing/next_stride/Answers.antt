-- A root that is not at most the length leaves it.
use mathlib.Core.Path.{◌≡◌, refl, sym, subst, ◌∙◌}
use mathlib.Core.Bool.{Bool, true, false, not, cond}
use lib.Dec.{T}
use lib.Ieee.{Float, is_nan}
use Rattle.number.specs.Operators.{◌<?◌, ◌≤?◌}
use Rattle.number.specs.Helpers.{min_of}
use Rattle.number.proofs.Order.{le_numbers, lt→le}
use Rattle.number.proofs.Order.{min_right}
use Rattle.step.specs.Shorten.{longest_stride}
use Rattle.step.specs.Closing.{next_stride}
use Rattle.step.proofs.Halving.{tenth_number}
use Rattle.step.proofs.closing.next_stride.Goals as goal

-- what is not at most a number leaves it as the minimum
left_alone : (m y : Float) → T (not (is_nan m)) → (y ≤? m) ≡ false → m ≡ min_of m y
unfolding min_of
left_alone m y h e = go (is_nan m) (is_nan y) (y <? m) refl (lt→le y m)
  where
    go : (i n l : Bool) → is_nan m ≡ i → (T l → T (y ≤? m)) → m ≡ cond i y (cond n m (cond l y m))
    go true n l p f = absurd (subst (λ (t : Bool). T (not t)) p h)
    go false true l p f = refl
    go false false false p f = refl
    go false false true p f = absurd (subst T e (f tt))

-- twice the stride, at most 0.1
longest_number : (a : Float) → T (not (is_nan (min_of a longest_stride)))
longest_number a = (le_numbers _ longest_stride (min_right a longest_stride tenth_number)).0

pub returns-then-at_most : goal.returns-then-at_most
unfolding next_stride
returns-then-at_most c = rw (c.min.ensures, c.sqrt.ensures.answer, c.min-longest.ensures, c.max.ensures, c.chord_deviation.ensures)

pub returns-else-at_most : goal.returns-else-at_most
unfolding next_stride
returns-else-at_most c =
    rw (← c.max.ensures, ← c.min-longest.ensures, ← c.chord_deviation.ensures)
    (left_alone _ _ (rw c.min-longest.ensures (longest_number _)) (sym c.at_most.ensures ∙ c.if-at_most.false))
