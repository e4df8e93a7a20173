use mathlib.Core.Path.{◌≡◌, ap, ◌∙◌}
use Rattle.std.specs.Prelude.{is_some}
use Rattle.number.specs.Operators.{◌⊖◌}
use Rattle.boxes.specs.Segment.{clip_of, segment_meets_box}
use Rattle.boxes.proofs.marching.segment_meets_box.Goals as goal

pub returns-in_default : goal.returns-in_default
unfolding segment_meets_box
returns-in_default c = rw (← c.clip.ensures, c.in_default.is)

pub returns-in_default-clip : goal.returns-in_default-clip
unfolding segment_meets_box
returns-in_default-clip c = rw (← c.clip.ensures, c.in-Some.is, ← c.clip-2.ensures, c.in_default-clip.is)

pub returns : goal.returns
unfolding segment_meets_box
returns c =
    let p = c.args.p in let q = c.args.q in let b = c.args.b in
    let joined : is_some (clip_of p.z (q.z ⊖ p.z) b.low.z b.high.z c.in-Some-clip.y) ≡ segment_meets_box p q b =
    rw (← c.clip.ensures, c.in-Some.is, ← c.clip-2.ensures, c.in-Some-clip.is) in
    c.is_some.ensures ∙ ap is_some c.clip-3.ensures ∙ joined
