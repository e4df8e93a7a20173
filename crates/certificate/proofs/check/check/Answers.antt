use Rattle.std.proofs.Common.{◌≡◌, refl, sym, ap, ◌∙◌, rules}
use Rattle.std.specs.Prelude.{Option, Some, None, Ok, Err}
use mathlib.Core.Bool.{Bool, true, false}
use mathlib.Core.List.{List}
use Prim.Native.Nat.{◌*◌, ◌/◌, ◌≤◌}
use native.Mathlib.Omega.{arith}
use lib.ListN.{length, take}
use lib.Seq.{length-take-le}
use lib.Ieee.{Float}
use Rattle.refusal.specs.declared.Refusal.TheVariants as refusal
use Rattle.refusal.specs.Verdict.{Verdict, asked}
use Rattle.refusal.proofs.Order.{passed_then, refused_then, last_then, asked_as, asked_held, held_asked}
use Rattle.groups.specs.Groups.{width, least_points, most_points, holds_of}
use Rattle.groups.specs.Row.{row_of}
use Rattle.groups.specs.Traced.{code_of, closing_at}
use Rattle.groups.specs.declared.traced.Closing.{Closing}
use Rattle.loops.specs.Loop.{pick}
use Rattle.groups.specs.declared.traced.Claim.{Claim}
use Rattle.loops.proofs.Choice.{let_through, stopped_by}
use Rattle.groups.proofs.Closings.{code_back}
use Rattle.groups.proofs.Groups.{holds_length}
use Rattle.certificate.specs.Passes.{closing_end}
use Rattle.certificate.specs.Check.{is_own, points_verdict, claim_so, check_of}
use Rattle.certificate.proofs.Iterations.{verdict_taken}
use Rattle.certificate.proofs.Passed.{claimed, code_so}
use Rattle.certificate.proofs.check.check.Goals as goal

-- what 8 and 12 let through
module _ (l : List Float) (q : Claim) where
  lent : {v : Verdict} → v ≡ Ok tt → v ≡ asked (holds_of width l q.count) refusal.Lent → width * q.count ≤ length l
  lent p e = holds_length width l q.count (asked_held (holds_of width l q.count) refusal.Lent (sym e ∙ p))

  abbrev so : Bool
  so = claim_so (row_of l) q.count q.start q.code

  module _ {v : Option Closing} (e : v ≡ pick so (Some (closing_at q.code)) None) where
    none : v ≡ None → so ≡ false
    none p = stopped_by so (closing_at q.code) (sym e ∙ p)

    module _ {x : Closing} (p : v ≡ Some x) where
      held : so ≡ true
      held = (let_through so (sym e ∙ p)).0

      few : (least_points ≤ q.count) × (q.count ≤ most_points)
      few = let n = claimed (row_of l) q.count q.start q.code held in (n.0, n.1)

      code : code_of x ≡ q.code
      code =
          ap code_of (sym (let_through so (sym e ∙ p)).1)
          ∙ code_back q.code (code_so (row_of l) q.count q.start q.code (claimed (row_of l) q.count q.start q.code held).3)

pub returns-in_err-pair_fitness : goal.returns-in_err-pair_fitness
unfolding check_of
returns-in_err-pair_fitness c =
    let e : c.from_residual.result ≡ c.pair_fitness.result = search rules in
    e ∙ refused_then _ c.pair_fitness.ensures c.in_err-pair_fitness.was

pub returns-in_err-asked : goal.returns-in_err-asked
unfolding check_of
returns-in_err-asked c =
    let e : c.from_residual-in_err-asked.result ≡ c.asked.result = search rules in
    passed_then c.pair_fitness.ensures c.in_ok-pair_fitness.was (e ∙ refused_then _ (asked_as refusal.Lent c.asked.ensures c.holds.ensures) c.in_err-asked.was)

pub returns-in_default : goal.returns-in_default
unfolding check_of
returns-in_default c =
    let l = c.args.trace.now in
    let q = c.args.claim in
    let n = none l q c.claimed.ensures c.in_default.is in
    let e : Err refusal.Claim ≡ asked (so l q) refusal.Claim = rw n in
    passed_then c.pair_fitness.ensures c.in_ok-pair_fitness.was (passed_then (asked_as refusal.Lent c.asked.ensures c.holds.ensures) c.in_ok-asked.was (refused_then _ e refl))

pub closing_end-end-requires : goal.closing_end-end-requires
closing_end-end-requires c = let n = few c.args.trace.now c.args.claim c.claimed.ensures c.in-Some.is in omega (arith, n.0)

pub overflow_mul-claim : goal.overflow_mul-claim
overflow_mul-claim c = let n = few c.args.trace.now c.args.claim c.claimed.ensures c.in-Some.is in omega (arith, n.1)

pub slice_bounds-points_verdict-end : goal.slice_bounds-points_verdict-end
slice_bounds-points_verdict-end c =
    sym (length-take-le _ c.args.trace.now (lent c.args.trace.now c.args.claim c.in_ok-asked.was (asked_as refusal.Lent c.asked.ensures c.holds.ensures)))

pub returns : goal.returns
unfolding check_of
returns c =
    let g = c.args in
    let l = g.trace.now in
    let q = g.claim in
    let h = asked_as refusal.Lent c.asked.ensures c.holds.ensures in
    let end : c.closing_end-end.result ≡ closing_end q.count q.code =
    c.closing_end-end.ensures ∙ ap (closing_end q.count) (code l q c.claimed.ensures c.in-Some.is) in
    let part = take (width * q.count) l in
    let e = c.points_verdict.ensures
    ∙ ap (points_verdict (is_own g.a) g.a g.b g.tol.confusion (row_of part) (length part / width)) end
    ∙ verdict_taken g.a g.b g.tol.confusion l q.count (closing_end q.count q.code) (lent l q c.in_ok-asked.was h) in
    let k : Ok tt ≡ asked (so l q) refusal.Claim = sym (held_asked (so l q) refusal.Claim (held l q c.claimed.ensures c.in-Some.is)) in
    passed_then c.pair_fitness.ensures c.in_ok-pair_fitness.was (passed_then h c.in_ok-asked.was (passed_then k refl (last_then e)))
