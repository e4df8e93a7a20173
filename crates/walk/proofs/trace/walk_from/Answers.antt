-- A law for each way out, from what the meeting and the tangent say.
use Rattle.std.specs.Prelude.{Err, Some, None}
use mathlib.Core.Path.{◌≡◌, refl, sym, ap, ◌∙◌}
use mathlib.Core.List.{List}
use Prim.Native.Nat.{ℕ}
use lib.Ieee.{Float}
use lib.ListN.{length, replicate}
use Rattle.number.specs.Helpers.{positive_zero}
use Rattle.refusal.specs.declared.Refusal.{Refusal}
use Rattle.refusal.specs.declared.Refusal.TheVariants as refusal
use Rattle.geometry.specs.declared.vector.Vector3D.{Vector3D}
use Rattle.geometry.specs.declared.tolerance.Tolerance.{Tolerance}
use Rattle.patch.specs.declared.patch.Patch.{Patch}
use Rattle.patch.specs.declared.patch.Parameters.{Parameters}
use Rattle.meeting.specs.declared.newton.Met.TheVariants as met
use Rattle.meeting.specs.Newton.{meet_of}
use Rattle.tangent.specs.Tangent.{tangent_of}
use Rattle.walk.specs.Lent.{own_row}
use Rattle.walk.specs.Line.{line_of}
use Rattle.groups.specs.Traced.{TraceAnswer}
use Rattle.groups.specs.Traced.{outcome}
use Rattle.walk.specs.Trace.{room, refused_walk, settled, unwalked_of, walk_of}
use Rattle.walk.proofs.trace.walk_from.Goals as goal

module _ (a b : Patch) (tol : Tolerance) (guess : Parameters) (n : ℕ) where
  unmet : (r : Refusal) → meet_of a b guess tol ≡ met.Refused r → refused_walk r n ≡ walk_of a b tol guess n
  unfolding walk_of
  unmet r m = rw m

  ten : (x : Parameters) → meet_of a b guess tol ≡ met.At x → tangent_of a b x tol ≡ None → refused_walk refusal.NoDirection n ≡ walk_of a b tol guess n
  unfolding walk_of
  ten x m d = rw (m, d)

  along : (x : Parameters) (t : Vector3D) → meet_of a b guess tol ≡ met.At x → tangent_of a b x tol ≡ Some t → settled (own_row a) n (line_of a b tol x t n) ≡ walk_of a b tol guess n
  unfolding walk_of
  along x t m d = rw (m, d)

-- a refusal leaves zeros
zeros : (l : List Float) (n : ℕ) {m : List Float} {t : TraceAnswer} (r : Refusal) → t ≡ Err r → length l ≡ room n → m ≡ replicate (length l) positive_zero
    → outcome t m ≡ refused_walk r n
zeros l n r f h e = rw f (ap (outcome (Err r)) (e ∙ ap (λ (k : ℕ). replicate k positive_zero) h))

pub returns-in_default : goal.returns-in_default
returns-in_default c =
    let e : c.fill.new.self ≡ replicate (length c.args.points.now) positive_zero = c.fill.ensures.after (λ y h. h) in
    zeros c.args.points.now _ _ (c.unwalked.ensures ∙ ap unwalked_of c.in_default.is) c.requires e
    ∙ unmet _ _ _ _ _ _ (sym c.meet-met.ensures.answer ∙ c.in_default.is)

pub returns-in_default-tangent : goal.returns-in_default-tangent
returns-in_default-tangent c =
    let e : c.fill-in_default-tangent.new.self ≡ replicate (length c.args.points.now) positive_zero = c.fill-in_default-tangent.ensures.after (λ y h. h) in
    zeros c.args.points.now _ _ refl c.requires e
    ∙ ten _ _ _ _ _ _ (sym c.meet-met.ensures.answer ∙ c.in-At.is) (sym c.tangent.ensures ∙ c.in_default-tangent.is)

pub line-requires : goal.line-requires
line-requires c = record { own = c.eval_point-p.ensures; whole = c.requires }

pub returns : goal.returns
returns c = c.line.ensures ∙ along _ _ _ _ _ _ _ (sym c.meet-met.ensures.answer ∙ c.in-At.is) (sym c.tangent.ensures ∙ c.in-Some.is)
