use Rattle.std.specs.Prelude.{None, Ok}
use Rattle.std.proofs.Common.{rules}
use mathlib.Core.Path.{◌≡◌, sym, ap, ◌∙◌}
use Prim.Native.Nat.{ℕ, ◌+◌, ◌-◌, ◌*◌}
use native.Mathlib.Omega.{arith}
use lib.ListN.{take, drop}
use Rattle.groups.specs.Groups.{width}
use Rattle.boxes.specs.declared.explain.Reason.TheVariants.{Segment}
use Rattle.boxes.specs.Explain.{Explained, explain_of, segment_of, stretch_at, stretch_of}
use Rattle.boxes.proofs.Explained.{segment_held}
use Rattle.boxes.proofs.explain.stretch.Goals as goal
use Rattle.boxes.proofs.explain.stretch.Goals.{In-Ok-Segment, in_default-via-in-Ok+in_default, in_default-via-in_default}

named : (c : In-Ok-Segment) → explain_of c.args.tol c.args.points.now c.args.count c.args.b ≡ Ok (Segment c.in-Ok-Segment.i)
named c = sym c.explain.ensures ∙ c.in-Ok-Segment.is ∙ ap Ok c.in-Ok-Segment.field-0-is

pub returns-in-Ok-Segment : goal.returns-in-Ok-Segment
unfolding stretch_of
returns-in-Ok-Segment c =
    let l = c.args.points.now in
    let i = c.in-Ok-Segment.i in
    ap (λ (k : ℕ). take k (drop (width * i) l)) (let e : width * (i + 2) - width * i ≡ width * 2 = omega arith in e)
    ∙ ap (λ (x : Explained). stretch_at l (segment_of x)) (sym (sym c.explain.ensures ∙ c.in-Ok-Segment.is ∙ ap Ok c.in-Ok-Segment.field-0-is))

pub returns-in_default : goal.returns-in_default
unfolding stretch_of
returns-in_default c =
    elim c.in_default.branch [
      | in_default-via-in-Ok+in_default w ↦
          let none : segment_of (Ok w.in_default.field-0) ≡ None = search rules in
          rw (← c.explain.ensures, w.in_default.is, none)
      | in_default-via-in_default w ↦ rw (← c.explain.ensures, w.in_default.is)
    ]

pub overflow_mul-result : goal.overflow_mul-result
overflow_mul-result c = let h = segment_held c.args.tol c.args.points.now c.args.count c.args.b c.in-Ok-Segment.i (named c) in omega (arith, h.1)

pub overflow_add-result : goal.overflow_add-result
overflow_add-result c = let h = segment_held c.args.tol c.args.points.now c.args.count c.args.b c.in-Ok-Segment.i (named c) in omega (arith, h.1)

pub overflow_mul-result-in-Ok-Segment : goal.overflow_mul-result-in-Ok-Segment
overflow_mul-result-in-Ok-Segment c = let h = segment_held c.args.tol c.args.points.now c.args.count c.args.b c.in-Ok-Segment.i (named c) in omega (arith, h.1)

pub offset_bounds-points-i : goal.offset_bounds-points-i
offset_bounds-points-i c = let h = segment_held c.args.tol c.args.points.now c.args.count c.args.b c.in-Ok-Segment.i (named c) in omega (arith, h.1)

pub slice_bounds-result-end : goal.slice_bounds-result-end
slice_bounds-result-end c = let h = segment_held c.args.tol c.args.points.now c.args.count c.args.b c.in-Ok-Segment.i (named c) in search rules
