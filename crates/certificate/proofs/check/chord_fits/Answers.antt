use borrow.Author.Tests.{eq-eqb, ne_eqb, eqb-true, eqb-false}
use mathlib.Core.Path.{◌≡◌, refl, sym, ◌∙◌}
use Prim.Native.Nat.{ℕ}
use Rattle.std.specs.Prelude.{Option, Some, None, nat_eq}
use Rattle.std.specs.Option.{option_eq}
use lib.Dec.{eqb}
use Rattle.loops.proofs.Any.{cases}
use Rattle.certificate.specs.Passes.{ends_at}
use Rattle.certificate.specs.Check.{chord_fits}
use Rattle.certificate.proofs.check.chord_fits.Goals as goal

ends : (e : Option ℕ) (i : ℕ) → option_eq nat_eq e (Some i) ≡ ends_at e i
ends None i = refl
ends (Some k) i =
    cases (eqb k i) (λ t. t ∙ sym (eq-eqb i k (sym (eqb-true k i t)))) (λ f. f ∙ sym (ne_eqb i k (λ e. eqb-false k i f (sym e))))

pub returns-then-i-eq0 : goal.returns-then-i-eq0
unfolding chord_fits
returns-then-i-eq0 c = rw (eq-eqb _ _ c.if-i-eq0.true)

pub returns-then-eq : goal.returns-then-eq
unfolding chord_fits
returns-then-eq c =
    let here : ends_at c.args.end c.args.i ≡ c.eq.result = sym (c.eq.ensures ∙ ends c.args.end c.args.i) in
    rw (ne_eqb _ _ c.if-i-eq0.false, here, c.if-eq.true)

pub returns-else-eq : goal.returns-else-eq
unfolding chord_fits
returns-else-eq c =
    let here : ends_at c.args.end c.args.i ≡ c.eq.result = sym (c.eq.ensures ∙ ends c.args.end c.args.i) in
    rw (c.within.ensures, c.point.ensures, c.point-else-eq.ensures, ne_eqb _ _ c.if-i-eq0.false, here, c.if-eq.false)
