use mathlib.Core.Path.{◌≡◌, ◌∙◌}
use lib.Ieee.{Float}
use Rattle.std.specs.Prelude.{Option, Some, None}
use mathlib.Core.List.{List}
use Prim.Native.Nat.{ℕ}
use Rattle.boxes.specs.declared.boxtree.Aabb.{Aabb}
use Rattle.boxes.specs.declared.explain.Reason.{Reason}
use Rattle.boxes.specs.declared.explain.Reason.TheVariants.{WholeApart}
use Rattle.boxes.specs.Bounds.{bounds_of}
use Rattle.boxes.specs.Explain.{first_apart, runs_reason, trace_reason}
use Rattle.boxes.proofs.Listed.{bounds_taken}
use Rattle.boxes.proofs.Searching.{reason_taken}
use Rattle.boxes.proofs.explain.trace_reason.Goals as goal

module _ (l : List Float) (count : ℕ) (grown : Aabb) {bounds : Aabb} {o : Option ℕ} (e : bounds ≡ bounds_of l count) (f : o ≡ first_apart bounds grown) where
  apart : {axis : ℕ} → o ≡ Some axis → WholeApart axis ≡ trace_reason l count grown
  unfolding trace_reason
  apart h = rw (← e, ← f, h)

  near : {q : Reason} → o ≡ None → q ≡ runs_reason l count grown → q ≡ trace_reason l count grown
  unfolding trace_reason
  near h k = rw (← e, ← f, h) k

pub returns-in-Some : goal.returns-in-Some
returns-in-Some c =
    let l = c.args.points.now in let count = c.args.count in
    apart l count c.args.grown (c.bounding_box.ensures ∙ bounds_taken l count c.requires.1 c.requires.0) c.first_apart.ensures c.in-Some.is

pub returns-in-None : goal.returns-in-None
returns-in-None c =
    let l = c.args.points.now in let count = c.args.count in
    near l count c.args.grown (c.bounding_box.ensures ∙ bounds_taken l count c.requires.1 c.requires.0) c.first_apart.ensures c.in-None.is
    (c.runs_reason.ensures ∙ reason_taken l count c.args.grown c.requires.1)
