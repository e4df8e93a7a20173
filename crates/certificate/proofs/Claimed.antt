-- The closing of a claim that 12 lets through, as the code finds it: first what 12 and 20 ask alike, then whether it is so.
use Rattle.std.specs.Prelude.{Option, Some, None}
use Rattle.std.specs.Bool.{then_some}
use mathlib.Core.Path.{◌≡◌, refl, sym, ap, ◌∙◌, subst}
use mathlib.Core.Bool.{Bool, true, false, ◌&&◌}
use Prim.Native.Nat.{ℕ}
use lib.Dec.{T, ltb, leb}
use borrow.Author.Tests.{leb-true, le-leb}
use Rattle.loops.specs.Loop.{pick}
use Rattle.groups.specs.declared.row.Row.{Row}
use Rattle.groups.specs.declared.traced.Claim.{Claim}
use Rattle.groups.specs.declared.traced.Closing.{Closing}
use Rattle.groups.specs.Groups.{count_fits}
use Rattle.groups.specs.Traced.{code_of, closing_at, closing_in}
use Rattle.loops.proofs.Choice.{let_through, stopped_by}
use Rattle.groups.proofs.Closings.{code_back}
use Rattle.certificate.specs.Check.{closing_so, claim_so}
use Rattle.certificate.proofs.Passed.{code_so}

three : (a b d : Bool) → a && (b && d) ≡ true → (a ≡ true) × (b ≡ true) × (d ≡ true)
three true true true e = (refl, refl, refl)
three true true false e = absurd (subst T (sym e) tt)
three true false d e = absurd (subst T (sym e) tt)
three false b d e = absurd (subst T (sym e) tt)

module _ (rows : ℕ → Row) (q : Claim) where
  abbrev So : ℕ → Bool
  So k = closing_so rows q.count q.start k

  pub claimed_some : (x : Closing) → closing_in q ≡ Some x → {s : Bool} → s ≡ So (code_of x)
      → then_some s x ≡ pick (claim_so rows q.count q.start q.code) (Some (closing_at q.code)) None
  unfolding claim_so
  claimed_some x e {s} f =
      let w = let_through (count_fits q.count && (ltb q.start q.count && leb q.code 2)) e in
      let h = three (count_fits q.count) (ltb q.start q.count) (leb q.code 2) w.0 in
      let k : code_of x ≡ q.code = ap code_of (sym w.1) ∙ code_back q.code (leb-true q.code 2 h.2) in
      let g : So q.code ≡ s = sym (f ∙ ap So k) in
      rw (h.0, h.1, g, w.1) (same s)
    where
      same : (s : Bool) → then_some s x ≡ pick s (Some x) None
      same true = refl
      same false = refl

  pub claimed_none : closing_in q ≡ None → pick (claim_so rows q.count q.start q.code) (Some (closing_at q.code)) None ≡ None
  unfolding claim_so
  claimed_none e = go (count_fits q.count) (ltb q.start q.count) (leb q.code 2) (So q.code) (λ t. le-leb q.code 2 (code_so rows q.count q.start q.code t)) (stopped_by _ (closing_at q.code) e)
    where
      go : (a b d c : Bool) → (c ≡ true → d ≡ true) → a && (b && d) ≡ false → pick (a && (b && c)) (Some (closing_at q.code)) None ≡ None
      go false b d c i f = refl
      go true false d c i f = refl
      go true true d false i f = refl
      go true true d true i f = absurd (subst T (sym (i refl) ∙ f) tt)
