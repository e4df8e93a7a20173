-- The start, the forward half behind it, the backward half behind that, then joined.
use mathlib.Core.Path.{sym, ap, ◌∙◌}
use mathlib.Core.Bool.{Bool}
use Prim.Native.Nat.{◌+◌, ◌*◌}
use mathlib.Core.List.{List}
use lib.Ieee.{Float}
use Rattle.loops.specs.Loop.{pick}
use Rattle.groups.specs.declared.traced.Closing.TheVariants.{Open, Backward}
use Rattle.groups.specs.Groups.{width}
use Rattle.geometry.specs.declared.point.Point3D.{Point3D}
use Rattle.walk.specs.Lent.{row_for, own_row}
use Rattle.walk.specs.Line.{Half, half_of, forward, backward}
use Rattle.walk.specs.Trace.{settled}
use Rattle.walk.proofs.Lists.{back_from}
use Rattle.walk.proofs.Lines.{Started, Forward, Both, started, forward_half, backward_half, settled_forward, settled_both, closed_forward_lem, both_halves_lem}
use Rattle.walk.proofs.line.line.Goals as goal
use Rattle.walk.proofs.line.line.Goals.{After-half-backward, After-half-forward, After-put}

-- ---- what the calls leave
module _ (c : After-put) where
  start_put : Started (own_row c.args.a) c.args.start.x c.args.n c.put.new.out
  start_put = started c.args.points.now c.requires.whole c.put.ensures (c.row_for.ensures ∙ ap (λ (q : Point3D). row_for q c.args.start.x) c.requires.own)

module _ (c : After-half-forward) where
  abbrev forward_half_of : Half
  forward_half_of = half_of c.args.a c.args.b c.args.tol forward c.args.start.x c.args.start.t c.args.n

  abbrev after_forward : List Float
  after_forward = back_from width c.put.new.out c.half-forward.new.out

  forward_put : Started (own_row c.args.a) c.args.start.x c.args.n c.put.new.out
      → Forward (own_row c.args.a) c.args.start.x c.args.n forward_half_of after_forward c.half-forward.result.count
  forward_put s = forward_half s c.half-forward.auto.out c.half-forward.ensures

module _ (c : After-half-backward) where
  abbrev first_half : Half
  first_half = half_of c.args.a c.args.b c.args.tol forward c.args.start.x c.args.start.t c.args.n

  abbrev first_put : List Float
  first_put = back_from width c.put.new.out c.half-forward.new.out

  both_put : Forward (own_row c.args.a) c.args.start.x c.args.n first_half first_put c.half-forward.result.count
      → Both (own_row c.args.a) c.args.start.x c.args.n first_half (half_of c.args.a c.args.b c.args.tol backward c.args.start.x c.args.start.t c.args.n)
      (back_from (width * (1 + c.half-forward.result.count)) first_put c.half-backward.new.out) c.half-forward.result.count c.half-backward.result.count
  both_put f = backward_half f c.half-backward.auto.out c.half-backward.ensures

pub returns-then-forward : goal.returns-then-forward
returns-then-forward c = c.finish.ensures ∙ settled_forward (forward_put (goal.at.returns-then-forward c).After-half-forward (start_put (goal.at.returns-then-forward c).After-put)) ∙ ap (settled _ _) (closed_forward_lem _ _ _ _ _ _ (sym c.half-forward.ensures.ends ∙ c.if-forward.true))

pub returns : goal.returns
returns c =
    c.finish-2.ensures ∙ settled_both (both_put (goal.at.returns c).After-half-backward (forward_put (goal.at.returns c).After-half-forward (start_put (goal.at.returns c).After-put))) c.join.ensures c.join.auto.points (c.backward_closing.ensures ∙ ap (λ (t : Bool). pick t Backward Open) c.half-backward.ensures.ends)
    ∙ ap (settled _ _) (both_halves_lem _ _ _ _ _ _ (sym c.half-forward.ensures.ends ∙ c.if-forward.false))
