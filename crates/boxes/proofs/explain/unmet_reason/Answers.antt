use mathlib.Core.Path.{◌≡◌, refl}
use Prim.Native.Nat.{ℕ, zero, suc}
use Rattle.boxes.specs.declared.explain.Reason.TheVariants.{NoneMet}
use Rattle.boxes.specs.Explain.{unmet_reason}
use Rattle.boxes.proofs.explain.unmet_reason.Goals as goal

pub returns-then-near-eq0 : goal.returns-then-near-eq0
returns-then-near-eq0 c = rw c.if-near-eq0.true

pub returns : goal.returns
returns c = go c.args.near c.if-near-eq0.false
  where
    go : (n : ℕ) → (n ≡ 0 → ⊥) → NoneMet n ≡ unmet_reason n
    go zero some = absurd (some refl)
    go (suc n) some = refl
