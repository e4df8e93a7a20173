use Rattle.std.proofs.Common.{◌≡◌, inl, inr}
use Rattle.meeting.specs.declared.correction.Target.TheVariants.{Plane}
use Rattle.meeting.specs.Correction.{shifted_of}
use Rattle.meeting.proofs.correction.shifted.Goals as goal

pub returns-in-Free : goal.returns-in-Free
unfolding shifted_of
returns-in-Free c = elim c.in-Free.is [
  | inl e ↦ rw e
  | inr e ↦ let plane : c.args.target ≡ Plane e.0 e.1 = e.2 in rw plane
]

pub returns-in-Pin : goal.returns-in-Pin
unfolding shifted_of
returns-in-Pin c = rw (c.in-Pin.is, ← c.parameter.ensures, ← c.with_parameter.ensures)
