use Rattle.std.proofs.Common.{◌≡◌, inl, inr}
use Rattle.meeting.specs.declared.correction.Target.TheVariants.{Pin}
use Rattle.meeting.specs.Correction.{offset_of}
use Rattle.meeting.proofs.correction.offset.Goals as goal

pub returns-in-Plane : goal.returns-in-Plane
unfolding offset_of
returns-in-Plane c = rw (c.dot.ensures, c.sub.ensures, c.in-Plane.is)

pub returns-in-Free : goal.returns-in-Free
unfolding offset_of
returns-in-Free c = elim c.in-Free.is [
  | inl e ↦ rw e
  | inr e ↦ let pinned : c.args.target ≡ Pin e.0 = e.1 in rw pinned
]
