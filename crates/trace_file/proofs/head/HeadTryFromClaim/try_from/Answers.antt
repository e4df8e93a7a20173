use mathlib.Core.Path.{◌≡◌, sym, ◌∙◌}
use mathlib.Core.Bool.{true, false}
use native.Mathlib.Omega.{arith}
use Rattle.std.specs.Prelude.{Option, Some, None}
use Rattle.groups.specs.declared.traced.Claim.{Claim}
use Rattle.groups.specs.declared.traced.Closing.{Closing}
use Rattle.groups.specs.Traced.{closing_at, closing_in}
use Rattle.loops.proofs.Choice.{let_through, stopped_by}
use Rattle.trace_file.specs.File.{claim_fits}
use Rattle.trace_file.proofs.Fitness.{claim_fits_lem}
use Rattle.trace_file.proofs.head.HeadTryFromClaim.try_from.Goals as goal

-- what 20 lets through is what gives a closing
module _ (q : Claim) {v : Option Closing} (e : v ≡ closing_in q) where
  held : {x : Closing} → v ≡ Some x → (claim_fits q.count q.start q.code ≡ true) × (closing_at q.code ≡ x)
  unfolding claim_fits
  held f = let_through _ (sym e ∙ f)

  failed : v ≡ None → claim_fits q.count q.start q.code ≡ false
  unfolding claim_fits
  failed f = stopped_by _ (closing_at q.code) (sym e ∙ f)

pub returns-in_default : goal.returns-in_default
returns-in_default c = rw (failed c.args.claim c.closing.ensures c.in_default.is)

pub overflow_cast-result : goal.overflow_cast-result
overflow_cast-result c = let k = claim_fits_lem (held c.args.claim c.closing.ensures c.in-Some.is).0 in omega (arith, k.1)

pub overflow_cast-result-2 : goal.overflow_cast-result-2
overflow_cast-result-2 c = let k = claim_fits_lem (held c.args.claim c.closing.ensures c.in-Some.is).0 in omega (arith, k.1, k.2)

pub returns : goal.returns
returns c = let k = held c.args.claim c.closing.ensures c.in-Some.is in rw (k.0, k.1)
