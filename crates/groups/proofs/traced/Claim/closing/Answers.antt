use mathlib.Core.Path.{◌≡◌, refl, subst, ◌∙◌}
use Prim.Native.Nat.{ℕ}
use lib.Dec.{leb}
use borrow.Author.Tests.{lt-ltb, le-ltb, lt-leb}
use Rattle.std.specs.Prelude.{Result, Ok, Err, Option, Some, None}
use Rattle.std.specs.Result.{result_ok}
use Rattle.loops.specs.Loop.{pick}
use Rattle.groups.specs.declared.traced.Closing.{Closing}
use Rattle.groups.specs.declared.traced.Closing.TheVariants.{Open, Forward, Backward}
use Rattle.groups.specs.declared.traced.UnknownCode.{UnknownCode}
use Rattle.groups.specs.Traced.{code_of, closing_at, Decodes}
use Rattle.groups.proofs.traced.Claim.closing.Goals as goal

-- what a code decodes to
abbrev of : ℕ → Option Closing
of k = pick (leb k 2) (Some (closing_at k)) None

own : (c : Closing) → Some c ≡ of (code_of c)
own Open = refl
own Forward = refl
own Backward = refl

decoded : (k : ℕ) (r : Result Closing UnknownCode) → Decodes k r → result_ok r ≡ of k
decoded k (Ok c) e = subst (λ (n : ℕ). Some c ≡ of n) e (own c)
decoded k (Err u) h = rw (lt-leb k 2 h)

pub returns-then-not-count_fits : goal.returns-then-not-count_fits
returns-then-not-count_fits c = rw (← c.count_fits.ensures, c.if-not-count_fits.true)

pub returns-then-self : goal.returns-then-self
returns-then-self c = rw (← c.count_fits.ensures, c.if-not-count_fits.false, le-ltb _ _ c.if-self.true)

pub returns : goal.returns
returns c =
    let e = c.ok.ensures.value ∙ decoded c.args.self.code c.try_from.result c.try_from.ensures in
    rw (← c.count_fits.ensures, c.if-not-count_fits.false, lt-ltb _ _ c.if-self.false) e
