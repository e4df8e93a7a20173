use mathlib.Core.Path.{refl}
use Rattle.meeting.specs.Correction.{dot4_of}
use Rattle.meeting.proofs.correction.dot4.Goals as goal

pub returns : goal.returns
unfolding dot4_of
returns c = refl
